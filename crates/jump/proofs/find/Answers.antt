use native.Mathlib.Omega.{arith}
use mathlib.Core.Path.{sym, ◌∙◌}
use Rattle.jump.proofs.Hits.{hit_told}
use Rattle.jump.proofs.Looking.{looked_start, looked_next, looked_hit, looked_over}
use Rattle.jump.proofs.find.Goals as goal

pub loop-i-init : goal.loop-i-init
loop-i-init c = looked_start _ _

pub returns-then-site_in : goal.returns-then-site_in
returns-then-site_in c = sym (looked_hit _ _ _ c.loop-i.invariant (omega arith) (hit_told _ _ _ _ c.piece_at.ensures ∙ sym c.site_in.ensures ∙ c.if-site_in.true))

pub loop-i-preserved : goal.loop-i-preserved
loop-i-preserved c = looked_next _ _ _ c.loop-i.invariant (omega arith) (hit_told _ _ _ _ c.piece_at.ensures ∙ sym c.site_in.ensures ∙ c.if-site_in.false)

pub returns : goal.returns
returns c = sym (looked_over _ _ _ c.loop-i.invariant (omega arith))
