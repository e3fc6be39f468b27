use Rattle.facets.proofs.Others.{total_others}
use Rattle.facets.proofs.total_of.Goals as goal

pub returns-in-Master : goal.returns-in-Master
returns-in-Master c = rw c.in-Master.is

pub returns-in_default : goal.returns-in_default
returns-in_default c = rw (total_others c.args.r c.in_default.not-Master)
