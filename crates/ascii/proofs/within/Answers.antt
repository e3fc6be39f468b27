use Rattle.ascii.specs.Tests.{between}
use borrow.Author.Tests.{lt-ltb, le-ltb}
use Rattle.ascii.proofs.within.Goals as goal

pub returns-then-b-lo : goal.returns-then-b-lo
unfolding between
returns-then-b-lo c = rw (lt-ltb _ _ c.if-b-lo.true)

pub returns : goal.returns
unfolding between
returns c = rw (le-ltb _ _ c.if-b-lo.false)
