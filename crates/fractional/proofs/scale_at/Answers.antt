use native.Mathlib.Omega.{arith}
use mathlib.Core.Path.{sym, ◌∙◌}
use Rattle.fractional.proofs.Looking.{sought_next, sought_hit, sought_over}
use Rattle.fractional.proofs.scale_at.Goals as goal

pub returns-then-is_scale1 : goal.returns-then-is_scale1
returns-then-is_scale1 c = sought_hit _ _ c.loop-i.invariant (omega arith) (rw c.piece_at.ensures at (sym c.is_scale1.ensures ∙ c.if-is_scale1.true))

pub loop-i-preserved : goal.loop-i-preserved
loop-i-preserved c = sought_next _ _ c.loop-i.invariant (omega arith) (rw c.piece_at.ensures at (sym c.is_scale1.ensures ∙ c.if-is_scale1.false))

pub returns : goal.returns
returns c = sought_over _ _ c.loop-i.invariant (omega arith)
