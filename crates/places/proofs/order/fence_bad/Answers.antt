use Rattle.ascii.proofs.Bools.{and_both, or_either}
use Rattle.places.specs.Places.{fence_bad}
use Rattle.places.proofs.Laws.{fence_other}
use Rattle.places.proofs.order.fence_bad.Goals as goal

pub returns-in-Model : goal.returns-in-Model
unfolding fence_bad
returns-in-Model c = rw c.in-Model.is (simp (and_both, or_either))

pub returns-in-Endmdl : goal.returns-in-Endmdl
unfolding fence_bad
returns-in-Endmdl c = rw c.in-Endmdl.is

pub returns-in_default : goal.returns-in_default
returns-in_default c = fence_other _ _ _ _ _ c.in_default.not-Model c.in_default.not-Endmdl c.row_of.ensures c.if-row_of.true

pub returns-in_default-2 : goal.returns-in_default-2
returns-in_default-2 c = fence_other _ _ _ _ _ c.in_default-2.not-Model c.in_default-2.not-Endmdl c.row_of.ensures c.if-row_of.false
