use Rattle.columns.proofs.Puts.{put_then, none_put}
use Rattle.model.specs.Models.{model_columns}
use Rattle.model.proofs.ModelLayout.put.Goals as goal

pub returns : goal.returns
unfolding model_columns
returns c = put_then c.put_blanks.ensures (put_then c.put_whole.ensures (put_then c.put_blanks-2.ensures (none_put _ 80)))
