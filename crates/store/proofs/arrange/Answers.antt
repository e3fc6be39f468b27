use Prim.Native.Nat.{ℕ}
use mathlib.Core.Path.{refl, ap, ◌∙◌}
use Rattle.refusals.proofs.Passed.{handed_on}
use Rattle.table.specs.Table.{told}
use Rattle.store.proofs.Answers.{never_zero, take_size, arrange_bad, arrange_other, arrange_done, arrange_count}
use Rattle.store.proofs.arrange.Goals as goal

pub returns-then-aside-h : goal.returns-then-aside-h
returns-then-aside-h c = arrange_other _ _ _ _ c.in_ok-h.ensures.number_value refl _ c.in_ok-h.ensures.belongs c.if-aside-h.true

pub slice_bounds-mark_each-end : goal.slice_bounds-mark_each-end
slice_bounds-mark_each-end c = c.in_ok-h.ensures.belongs.room

pub slice_bounds-mark_each-end-2 : goal.slice_bounds-mark_each-end-2
slice_bounds-mark_each-end-2 c = take_size _ _ c.in_ok-h.ensures.belongs.room

pub mark_each-requires : goal.mark_each-requires
mark_each-requires c = arrange_count _ _ c.args.aside.now _ c.in_ok-h.ensures.number_value refl _ c.in_ok-h.ensures.belongs c.if-aside-h.false

pub returns : goal.returns
returns c = arrange_done _ _ _ _ c.in_ok-h.ensures.number_value refl _ c.in_ok-h.ensures.belongs c.if-aside-h.false _ (rw c.mark_each.ensures refl)

pub returns-in_err-h : goal.returns-in_err-h
returns-in_err-h c = ap (λ (k : ℕ). told k 0 c.args.table.now) (handed_on c.from_residual.result c.in_err-h.field-0.0 c.from_residual.ensures.1) ∙ arrange_bad _ _ _ _ c.in_err-h.ensures.number_value (never_zero _)
