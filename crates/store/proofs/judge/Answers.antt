use borrow.Author.Tests.{not-true, not-false}
use mathlib.Core.Path.{refl, ◌∙◌}
use Rattle.refusals.proofs.Passed.{handed_on}
use Rattle.store.proofs.Answers.{never_zero, take_size, table_bad, table_short, table_other, table_torn, table_good, held_good}
use Rattle.store.proofs.judge.Goals as goal

pub returns-in_err-need-clause-number_value : goal.returns-in_err-need-clause-number_value
returns-in_err-need-clause-number_value c = handed_on c.from_residual.result c.in_err-need.field-0.0 c.from_residual.ensures.1 ∙ table_bad _ _ _ c.in_err-need.ensures.number_value (never_zero _)

pub returns-then-table-need-clause-number_value : goal.returns-then-table-need-clause-number_value
returns-then-table-need-clause-number_value c = table_short _ _ _ c.in_ok-need.ensures.number_value refl _ c.in_ok-need.ensures.surveyed.need c.if-table-need.true

pub returns-then-not-fits-clause-number_value : goal.returns-then-not-fits-clause-number_value
returns-then-not-fits-clause-number_value c = let S = c.in_ok-need.ensures.surveyed in table_other _ _ _ c.in_ok-need.ensures.number_value refl _ S.need c.if-table-need.false _ S.fits c.if-not-fits.true

pub slice_bounds-tail_of-end : goal.slice_bounds-tail_of-end
slice_bounds-tail_of-end c = take_size _ _ c.if-table-need.false

pub returns-then-not-t-clause-number_value : goal.returns-then-not-t-clause-number_value
returns-then-not-t-clause-number_value c = let S = c.in_ok-need.ensures.surveyed in table_torn _ _ _ c.in_ok-need.ensures.number_value refl _ S.need c.if-table-need.false _ S.fits c.if-not-fits.false _ c.tail_of-t.ensures.value (not-true _ c.if-not-t.true)

pub returns : goal.returns
returns c = let S = c.in_ok-need.ensures.surveyed in record {
  number_value = table_good _ _ _ c.in_ok-need.ensures.number_value refl _ S.need c.if-table-need.false _ S.fits c.if-not-fits.false _ c.tail_of-t.ensures.value (not-false _ c.if-not-t.false);
  belongs = held_good _ _ _ S c.if-not-fits.false c.if-table-need.false _ c.tail_of-t.ensures.value c.tail_of-t.ensures.count_in_bounds;
}
