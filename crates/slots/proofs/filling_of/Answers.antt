use Rattle.slots.proofs.Returns.{site_small}
use Rattle.slots.proofs.filling_of.Goals as goal

pub slot_of_atom-requires : goal.slot_of_atom-requires
slot_of_atom-requires c = site_small _ _ _ _ c.in-Some-Site.is (rw c.in-Some-Site.is at c.in-Some-Site.field-0-is) c.requires
