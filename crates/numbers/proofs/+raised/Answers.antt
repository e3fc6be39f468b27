use native.Mathlib.Omega.{arith}
use Rattle.numbers.proofs.Products.{raise_none, raise_less, raise_fits, raise_some}
use Rattle.numbers.proofs.+raised.Goals as goal

pub returns-then-n-eq0 : goal.returns-then-n-eq0
returns-then-n-eq0 t c = search raise_none

pub overflow_mul-v : goal.overflow_mul-v
overflow_mul-v t c = search raise_fits

pub raised-requires : goal.raised-requires
raised-requires t c = search (raise_less, arith)

pub returns : goal.returns
returns t c = search raise_some
