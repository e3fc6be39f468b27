use mathlib.Core.Path.{refl, ◌∙◌}
use native.Mathlib.Omega.{arith}
use Rattle.store.proofs.Answers.{never_zero, told_on, take_size, numbers_bad, numbers_short, numbers_done, numbers_fit}
use Rattle.store.proofs.fragments_of.Goals as goal

pub returns-then-out-h : goal.returns-then-out-h
returns-then-out-h c = numbers_short _ _ _ _ c.in_ok-h.ensures.number_value refl _ c.in_ok-h.ensures.belongs c.if-out-h.true

pub slice_bounds-number_all-end : goal.slice_bounds-number_all-end
slice_bounds-number_all-end c = take_size _ _ c.in_ok-h.ensures.belongs.room

pub number_all-requires : goal.number_all-requires
number_all-requires c = record {
  table_bound = numbers_fit _ _ _ c.in_ok-h.ensures.number_value refl _ c.in_ok-h.ensures.belongs;
  table_in_bounds = omega (arith, c.if-out-h.false, take_size c.args.table.now _ c.in_ok-h.ensures.belongs.room);
}

pub returns : goal.returns
returns c = numbers_done _ _ _ _ c.in_ok-h.ensures.number_value refl _ c.in_ok-h.ensures.belongs c.if-out-h.false _ c.number_all.ensures

pub returns-in_err-h : goal.returns-in_err-h
returns-in_err-h c = told_on c.from_residual.result c.in_err-h.field-0.0 _ c.from_residual.ensures.1 ∙ numbers_bad _ _ _ _ c.in_err-h.ensures.number_value (never_zero _)
