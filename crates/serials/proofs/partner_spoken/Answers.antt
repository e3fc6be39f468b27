use borrow.Author.Tests.{eq-eqb, ne_eqb}
use Rattle.ascii.specs.Tests.{either}
use Rattle.serials.proofs.partner_spoken.Goals as goal

pub returns-then-x-eq0 : goal.returns-then-x-eq0
unfolding either
returns-then-x-eq0 c = λ n s B E. rw (eq-eqb _ _ c.if-x-eq0.true)

pub returns-else-x-eq0 : goal.returns-else-x-eq0
unfolding either
returns-else-x-eq0 c = λ n s B E. rw (ne_eqb _ _ c.if-x-eq0.false) (c.spoken.ensures n s B E)
