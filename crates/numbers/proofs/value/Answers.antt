use Rattle.numbers.proofs.Runs.{value_low, value_yes, value_no}
use native.Mathlib.Omega.{arith}
use Rattle.numbers.proofs.value.Goals as goal

pub overflow_sub-result : goal.overflow_sub-result
overflow_sub-result c = search (value_low, arith)

pub returns-then-is_digit : goal.returns-then-is_digit
returns-then-is_digit c = search value_yes

pub returns-else-is_digit : goal.returns-else-is_digit
returns-else-is_digit c = search value_no
