use Rattle.slots.proofs.has_slot.Goals as goal

pub returns : goal.returns
returns c = rw c.row_of.ensures
