use Rattle.slots.proofs.Returns.{atom_slot}
use Rattle.slots.proofs.slot_of_atom.Goals as goal

pub returns : goal.returns
returns c = search atom_slot
