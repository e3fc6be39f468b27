use Rattle.fragments.proofs.end_tail.Goals as goal

pub returns : goal.returns
returns c = rw c.no_residue.ensures
