use mathlib.Core.Path.{◌∙◌}
use native.Mathlib.Omega.{arith}
use Rattle.keys.specs.Keys.{body_of}
use Rattle.keys.proofs.Columns.{word_cols}
use Rattle.keys.proofs.body.Goals as goal

pub returns : goal.returns
unfolding body_of
returns c = c.word.ensures ∙ word_cols c.args.piece.now 0 80 12 8 (omega arith)
