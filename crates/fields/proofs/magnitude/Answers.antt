use Rattle.fields.proofs.Signs.{wide, minus_fits, minus_cast, minus_abs, plus_cast, plus_abs}
use Rattle.fields.proofs.magnitude.Goals as goal

pub overflow_cast-w : goal.overflow_cast-w
overflow_cast-w c = search wide

pub overflow_sub-result : goal.overflow_sub-result
overflow_sub-result c = search minus_fits

pub overflow_cast-result : goal.overflow_cast-result
overflow_cast-result c = minus_cast _ c.ranges.z c.if-w-lt0.true

pub returns-then-w-lt0 : goal.returns-then-w-lt0
returns-then-w-lt0 c = search minus_abs

pub overflow_cast-result-2 : goal.overflow_cast-result-2
overflow_cast-result-2 c = plus_cast _ c.ranges.z c.if-w-lt0.false

pub returns : goal.returns
returns c = search plus_abs
