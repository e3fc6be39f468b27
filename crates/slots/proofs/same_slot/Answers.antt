use Rattle.ascii.proofs.Bools.{and_both, both_assoc}
use Rattle.slots.specs.Slots.{same_slot}
use Rattle.slots.proofs.same_slot.Goals as goal

pub returns : goal.returns
unfolding same_slot
returns c = simp (and_both, both_assoc, c.eq.ensures, c.residue_of.ensures, c.residue_of-2.ensures, c.same_residue.ensures, c.same_names.ensures, c.same_measures.ensures)
