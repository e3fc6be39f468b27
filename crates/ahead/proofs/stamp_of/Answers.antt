use Rattle.ahead.specs.Stamps.{stamp_of}
use Rattle.ahead.proofs.stamp_of.Goals as goal

pub returns : goal.returns
unfolding stamp_of
returns c = cc
