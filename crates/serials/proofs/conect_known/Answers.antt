use Rattle.ascii.proofs.Bools.{and_both, both_assoc}
use Rattle.serials.proofs.conect_known.Goals as goal

pub returns : goal.returns
returns c = λ n s B E. simp (
  and_both,
  both_assoc,
  c.spoken-own.ensures n s B E,
  c.partner_spoken-a.ensures n s B E,
  c.partner_spoken-b.ensures n s B E,
  c.partner_spoken-c.ensures n s B E,
  c.partner_spoken-d.ensures n s B E,
)
