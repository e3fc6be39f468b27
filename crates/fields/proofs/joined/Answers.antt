use Rattle.fields.proofs.Signs.{joined_fits, joined_minus, joined_plus}
use Rattle.fields.proofs.joined.Goals as goal

pub overflow_sub-result : goal.overflow_sub-result
overflow_sub-result c = search joined_fits

pub returns-then-minus : goal.returns-then-minus
returns-then-minus c = search joined_minus

pub returns : goal.returns
returns c = search joined_plus
