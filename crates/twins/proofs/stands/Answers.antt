use mathlib.Core.Path.{◌∙◌, sym}
use native.Mathlib.Omega.{arith}
use Rattle.rows.specs.Text.{row}
use Rattle.twins.proofs.Standing.{stands_more, row_piece}
use Rattle.twins.proofs.stands.Goals as goal

pub returns-then-hit : goal.returns-then-hit
returns-then-hit c = (c.loop-j.j, omega arith, c.loop-j-test.true, sym (rw (row_piece _ _ _ c.piece_at.ensures) at c.hit.ensures) ∙ c.if-hit.true)

pub loop-j-preserved : goal.loop-j-preserved
loop-j-preserved c = stands_more c.args.a (row c.args.text.now) _ _ c.loop-j.invariant (sym (rw (row_piece _ _ _ c.piece_at.ensures) at c.hit.ensures) ∙ c.if-hit.false)
