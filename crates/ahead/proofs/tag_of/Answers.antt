use mathlib.Core.Path.{refl}
use Rattle.ahead.specs.Stamps.{tag_of}
use Rattle.ahead.proofs.tag_of.Goals as goal

pub returns : goal.returns
unfolding tag_of
returns c = refl
