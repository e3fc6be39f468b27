use native.Mathlib.Omega.{arith}
use mathlib.Core.Path.{◌∙◌, sym}
use Rattle.trail.proofs.Covers.{covered, apart_beyond}
use Rattle.trail.proofs.cover.beyond.Goals as goal

pub returns-then-from-d : goal.returns-then-from-d
returns-then-from-d c = (omega arith, omega arith, λ t lo C A. apart_beyond t _ lo _ _ C (covered _ _ _ (sym c.covers.ensures ∙ c.if-covers.true)) A)
