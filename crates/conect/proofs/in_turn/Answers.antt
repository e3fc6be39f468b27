use borrow.Author.Tests.{eq-eqb, ne_eqb}
use Rattle.conect.specs.Conects.{unbroken}
use Rattle.conect.proofs.in_turn.Goals as goal

pub returns-then-next-eq0 : goal.returns-then-next-eq0
unfolding unbroken
returns-then-next-eq0 c = rw (eq-eqb _ _ c.if-next-eq0.true)

pub returns-else-next-eq0 : goal.returns-else-next-eq0
unfolding unbroken
returns-else-next-eq0 c = rw (ne_eqb _ _ c.if-next-eq0.false)
