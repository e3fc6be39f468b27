use Rattle.serials.proofs.known.Goals as goal

pub returns-in-Some : goal.returns-in-Some
returns-in-Some c = λ n s B E. rw (← c.bond_in.ensures, c.in-Some.is) (c.conect_known.ensures n s B E)
