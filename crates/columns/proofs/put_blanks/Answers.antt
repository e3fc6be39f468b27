use Rattle.columns.proofs.Puts.{part_long, blanks_put}
use Rattle.columns.proofs.put_blanks.Goals as goal

pub returns : goal.returns
returns c = blanks_put _ _ _ _ _ c.requires (part_long _ _ _ c.requires) (c.fill.ensures.after (λ y e. e))
