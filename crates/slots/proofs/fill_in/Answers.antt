use Rattle.slots.proofs.Returns.{typed_small}
use Rattle.slots.proofs.fill_in.Goals as goal

pub filling_of-requires : goal.filling_of-requires
filling_of-requires c = typed_small _ _ _ c.in-Ok.is c.spot_of.ensures c.requires
