use Rattle.ascii.proofs.Bools.{and_both, both_assoc}
use Rattle.helix.specs.Helices.{comment_columns}
use Rattle.helix.proofs.comment_is_good.Goals as goal

pub returns : goal.returns
unfolding comment_columns
returns c = simp (and_both, both_assoc, c.is_word.ensures, c.is_word-2.ensures, c.is_word-3.ensures, c.is_word-4.ensures)
