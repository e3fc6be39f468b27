use borrow.Author.Tests.{lt-ltb, le-ltb, eq-eqb, ne_eqb}
use Rattle.search.specs.Search.{part_of}
use Rattle.search.proofs.part.Goals as goal

pub returns-then-there-x : goal.returns-then-there-x
unfolding part_of
returns-then-there-x c = rw (lt-ltb _ _ c.if-there-x.true)

pub returns-then-there-x-2 : goal.returns-then-there-x-2
unfolding part_of
returns-then-there-x-2 c = rw (le-ltb _ _ c.if-there-x.false, eq-eqb _ _ c.if-there-x-2.true)

pub returns : goal.returns
unfolding part_of
returns c = rw (le-ltb _ _ c.if-there-x.false, ne_eqb _ _ c.if-there-x-2.false)
