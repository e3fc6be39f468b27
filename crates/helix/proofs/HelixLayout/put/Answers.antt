use Rattle.columns.proofs.Puts.{put_then, none_put}
use Rattle.helix.specs.Helices.{helix_columns}
use Rattle.helix.proofs.HelixLayout.put.Goals as goal

pub returns : goal.returns
unfolding helix_columns
returns c =
    put_then c.put_extent.ensures
    (put_then c.put_whole.ensures
    (put_then c.put_comment.ensures (put_then c.put_blanks.ensures (put_then c.put_whole-2.ensures (put_then c.put_blanks-2.ensures (none_put _ 80))))))
