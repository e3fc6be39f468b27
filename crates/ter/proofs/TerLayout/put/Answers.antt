use Rattle.columns.proofs.Puts.{put_then, none_put}
use Rattle.ter.specs.Ters.{ter_columns}
use Rattle.ter.proofs.TerLayout.put.Goals as goal

pub returns : goal.returns
unfolding ter_columns
returns c = put_then c.put_whole.ensures (put_then c.put_blanks.ensures (put_then c.put_residue.ensures (put_then c.put_blanks-2.ensures (none_put _ 80))))
