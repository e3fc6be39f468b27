use Rattle.numbers.proofs.Puts.{render_none, render_point, render_one, render_more, render_decimal}
use Rattle.numbers.proofs.+put_number.Goals as goal

pub returns-then-n-eq0 : goal.returns-then-n-eq0
returns-then-n-eq0 t c = search render_none

pub returns-then-e-eq1 : goal.returns-then-e-eq1
returns-then-e-eq1 t c = search render_point

pub returns-then-v-lt10 : goal.returns-then-v-lt10
returns-then-v-lt10 t c = search render_one

pub returns-then-e-eq0 : goal.returns-then-e-eq0
returns-then-e-eq0 t c = search render_more

pub returns : goal.returns
returns t c = search render_decimal
