use native.Mathlib.Omega.{arith}
use Rattle.numbers.proofs.Products.{scale_ten_fits, scale_digit_fits, scale_sum_fits, scale_less, scale_none, scale_some}
use Rattle.numbers.proofs.+scaled.Goals as goal

pub returns-then-n-eq0 : goal.returns-then-n-eq0
returns-then-n-eq0 t c = search scale_none

pub overflow_mul-s : goal.overflow_mul-s
overflow_mul-s t c = search scale_ten_fits

pub scaled-h-requires : goal.scaled-h-requires
scaled-h-requires t c = search (scale_less, arith)

pub overflow_mul-result : goal.overflow_mul-result
overflow_mul-result t c = search scale_digit_fits

pub overflow_add-result : goal.overflow_add-result
overflow_add-result t c = search scale_sum_fits

pub returns : goal.returns
returns t c = search scale_some
