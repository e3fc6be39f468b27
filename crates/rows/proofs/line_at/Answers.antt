use Rattle.pieces.specs.Pieces.{line_of}
use native.Mathlib.Omega.{arith}
use mathlib.Core.Path.{◌∙◌, ap}
use Rattle.rows.specs.Text.{row}
use Rattle.rows.proofs.Cut.{part_short}
use Rattle.rows.proofs.line_at.Goals as goal

pub returns-then-text-at-lt81 : goal.returns-then-text-at-lt81
unfolding row
returns-then-text-at-lt81 c = c.line_of.ensures ∙ ap line_of (part_short c.args.text.now c.args.i (omega arith))

pub returns-else-text-at-lt81 : goal.returns-else-text-at-lt81
unfolding row
returns-else-text-at-lt81 c = c.line_of-else-text-at-lt81.ensures ∙ ap line_of c.piece_at.ensures
