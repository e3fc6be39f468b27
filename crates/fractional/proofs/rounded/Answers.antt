use Rattle.fractional.proofs.Whole.{near_is}
use Rattle.fractional.proofs.rounded.Goals as goal

pub returns : goal.returns
returns c = near_is _ _ _ _ c.requires c.ranges.z c.size-v.ensures c.below-minus.ensures c.signed.ensures
