use Rattle.ascii.proofs.Bools.{and_both, both_assoc}
use Rattle.table.specs.Deal.{is_in}
use Rattle.bonds.proofs.is_in.Goals as goal

pub returns : goal.returns
unfolding is_in
returns c = simp (and_both, both_assoc, c.is_ter.ensures, c.eq.ensures)
