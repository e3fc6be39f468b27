use Rattle.numbers.proofs.Runs.{value_under, take_made}
use native.Mathlib.Omega.{arith}
use Rattle.numbers.proofs.taken.Goals as goal

pub overflow_add-result : goal.overflow_add-result
overflow_add-result c = omega (arith, value_under _ _ c.value.ensures)

pub returns : goal.returns
returns c = search take_made
