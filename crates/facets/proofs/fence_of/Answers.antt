use Rattle.facets.proofs.Others.{fence_others}
use Rattle.facets.proofs.fence_of.Goals as goal

pub returns-in-Model : goal.returns-in-Model
returns-in-Model c = rw c.in-Model.is

pub returns-in-Endmdl : goal.returns-in-Endmdl
returns-in-Endmdl c = rw c.in-Endmdl.is

pub returns-in_default : goal.returns-in_default
returns-in_default c = rw (fence_others c.args.r c.in_default.not-Model c.in_default.not-Endmdl)
