use mathlib.Core.Path.{◌∙◌}
use Rattle.rows.proofs.Cut.{part_full}
use Rattle.rows.proofs.piece_at.Goals as goal

pub returns : goal.returns
returns c = (rw c.unwrap.ensures at c.as_array.ensures.cases).same ∙ part_full c.args.text.now c.args.i
