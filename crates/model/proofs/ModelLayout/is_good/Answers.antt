use Rattle.ascii.proofs.Bools.{both_true}
use Rattle.model.specs.Models.{model_columns}
use Rattle.model.proofs.ModelLayout.is_good.Goals as goal

pub returns : goal.returns
unfolding model_columns
returns c = simp (both_true, c.ranged.ensures)
