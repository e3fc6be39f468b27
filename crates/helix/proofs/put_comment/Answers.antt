use Rattle.columns.proofs.Puts.{put_then}
use Rattle.helix.specs.Helices.{comment_columns}
use Rattle.helix.proofs.put_comment.Goals as goal

pub returns : goal.returns
unfolding comment_columns
returns c = put_then c.put_word.ensures (put_then c.put_word-2.ensures (put_then c.put_word-3.ensures c.put_word-4.ensures))
