use Rattle.table.specs.Deal.{past_after}
use mathlib.Core.Path.{◌∙◌, ap}
use Rattle.writing.proofs.past_next.Goals as goal

pub returns : goal.returns
returns c = c.past_after.ensures ∙ ap (past_after c.args.past) c.fence_in.ensures
