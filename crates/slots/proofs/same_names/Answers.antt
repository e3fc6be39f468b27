use Rattle.ascii.proofs.Bools.{and_both, both_assoc}
use Rattle.slots.specs.Slots.{same_names}
use Rattle.slots.proofs.same_names.Goals as goal

pub returns : goal.returns
unfolding same_names
returns c = simp (and_both, both_assoc, c.eq.ensures, c.eq-2.ensures, c.eq-3.ensures)
