use native.Mathlib.Omega.{arith}
use Prim.Native.Nat.{ℕ}
use mathlib.Core.Path.{refl, ap, ◌∙◌}
use Rattle.refusals.proofs.Passed.{handed_on}
use Rattle.table.specs.Table.{told}
use Rattle.store.proofs.Answers.{never_zero, take_size, order_bad, order_zero, order_past, order_there, order_done}
use Rattle.store.proofs.order.Goals as goal

pub returns-then-f-eq0 : goal.returns-then-f-eq0
returns-then-f-eq0 c = order_zero _ _ _ _ _ c.in_ok-need.ensures.number_value refl _ c.in_ok-need.ensures.belongs c.if-f-eq0.true

pub returns-then-fragments-f : goal.returns-then-fragments-f
returns-then-fragments-f c = order_past _ _ _ _ _ c.in_ok-need.ensures.number_value refl _ c.in_ok-need.ensures.belongs c.if-f-eq0.false c.if-fragments-f.true

pub overflow_add-b : goal.overflow_add-b
overflow_add-b c = omega (arith, c.in_ok-need.ensures.belongs.few, c.in_ok-need.ensures.belongs.room)

pub slice_bounds-mark_of-end : goal.slice_bounds-mark_of-end
slice_bounds-mark_of-end c = c.in_ok-need.ensures.belongs.room

pub slice_bounds-mark_of-end-2 : goal.slice_bounds-mark_of-end-2
slice_bounds-mark_of-end-2 c = take_size _ _ c.in_ok-need.ensures.belongs.room

pub returns-then-mark_of-m : goal.returns-then-mark_of-m
returns-then-mark_of-m c = order_there _ _ _ _ _ c.in_ok-need.ensures.number_value refl _ c.in_ok-need.ensures.belongs c.if-f-eq0.false c.if-fragments-f.false _ c.mark_byte-m.ensures _ c.mark_of.ensures c.if-mark_of-m.true

pub slice_bounds-mark_all-end : goal.slice_bounds-mark_all-end
slice_bounds-mark_all-end c = c.in_ok-need.ensures.belongs.room

pub slice_bounds-mark_all-end-2 : goal.slice_bounds-mark_all-end-2
slice_bounds-mark_all-end-2 c = take_size _ _ c.in_ok-need.ensures.belongs.room

pub returns : goal.returns
returns c = order_done _ _ _ _ _ c.in_ok-need.ensures.number_value refl _ c.in_ok-need.ensures.belongs c.if-f-eq0.false c.if-fragments-f.false _ c.mark_byte-m.ensures _ c.mark_of.ensures c.if-mark_of-m.false _ (rw c.mark_all.ensures refl)

pub returns-in_err-need : goal.returns-in_err-need
returns-in_err-need c = ap (λ (k : ℕ). told k 0 c.args.table.now) (handed_on c.from_residual.result c.in_err-need.field-0.0 c.from_residual.ensures.1) ∙ order_bad _ _ _ _ _ c.in_err-need.ensures.number_value (never_zero _)
