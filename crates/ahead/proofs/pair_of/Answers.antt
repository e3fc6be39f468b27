use mathlib.Core.Path.{refl}
use native.Mathlib.Omega.{arith}
use Rattle.ahead.specs.Stamps.{pair_of}
use Rattle.ahead.proofs.pair_of.Goals as goal

pub returns : goal.returns
unfolding pair_of
returns c = (refl, omega arith)
