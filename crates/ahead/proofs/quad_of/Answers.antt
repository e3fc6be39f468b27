use native.Mathlib.Omega.{arith}
use Rattle.ahead.specs.Stamps.{quad_of}
use Rattle.ahead.proofs.quad_of.Goals as goal

pub returns : goal.returns
unfolding quad_of
returns c = (cc, omega arith)
