use borrow.Author.Tests.{eq-eqb, ne_eqb}
use Rattle.fragments.proofs.mark_slot.Goals as goal

pub returns-then-t-b : goal.returns-then-t-b
returns-then-t-b c = rw (eq-eqb _ _ c.if-t-b.true) c.with_mark.ensures

pub returns : goal.returns
returns c = rw (ne_eqb _ _ c.if-t-b.false)
