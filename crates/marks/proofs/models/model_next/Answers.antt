use Rattle.table.specs.Table.{model_after}
use mathlib.Core.Path.{◌∙◌, ap}
use Rattle.marks.proofs.models.model_next.Goals as goal

pub returns : goal.returns
returns c = c.model_after.ensures ∙ ap (model_after c.args.m) c.fence_in.ensures
