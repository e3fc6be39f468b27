use native.Mathlib.Omega.{arith}
use mathlib.Core.Path.{refl}
use Rattle.ahead.specs.Stamps.{place_of}
use Rattle.ahead.proofs.place_of.Goals as goal

pub returns : goal.returns
unfolding place_of
returns c = (refl, omega arith)
