use Rattle.facets.proofs.Others.{fold_others}
use Rattle.facets.proofs.fold_of.Goals as goal

pub returns-in-Helix : goal.returns-in-Helix
returns-in-Helix c = rw c.in-Helix.is

pub returns-in-Sheet : goal.returns-in-Sheet
returns-in-Sheet c = rw c.in-Sheet.is

pub returns-in_default : goal.returns-in_default
returns-in_default c = rw (fold_others c.args.r c.in_default.not-Helix c.in_default.not-Sheet)
