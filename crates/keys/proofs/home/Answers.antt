use mathlib.Core.Path.{◌∙◌}
use native.Mathlib.Omega.{arith}
use Rattle.keys.specs.Keys.{home_of}
use Rattle.keys.proofs.Columns.{word_cols}
use Rattle.keys.proofs.home.Goals as goal

pub returns : goal.returns
unfolding home_of
returns c = c.word.ensures ∙ word_cols c.args.piece.now 0 80 21 6 (omega arith)
