use borrow.Author.Tests.{eq-eqb, ne_eqb}
use Rattle.ascii.specs.Tests.{both, either}
use Rattle.feed.specs.Feed.{is_drawn}
use Rattle.feed.proofs.is_drawn.Goals as goal

pub returns-then-s-eq-ATOM : goal.returns-then-s-eq-ATOM
unfolding is_drawn both either
returns-then-s-eq-ATOM c = rw (eq-eqb _ _ c.if-s-eq-IN.true, eq-eqb _ _ c.if-s-eq-ATOM.true)

pub returns-else-s-eq-ATOM : goal.returns-else-s-eq-ATOM
unfolding is_drawn both either
returns-else-s-eq-ATOM c = rw (eq-eqb _ _ c.if-s-eq-IN.true, ne_eqb _ _ c.if-s-eq-ATOM.false)

pub returns-else-s-eq-IN : goal.returns-else-s-eq-IN
unfolding is_drawn both either
returns-else-s-eq-IN c = rw (ne_eqb _ _ c.if-s-eq-IN.false)
