use borrow.Author.Tests.{le-leb, lt-leb}
use Rattle.ascii.specs.Tests.{both}
use Rattle.fields.specs.Field.{ranged_of}
use Rattle.fields.proofs.ranged.Goals as goal

pub returns-then-lo-v : goal.returns-then-lo-v
unfolding ranged_of both
returns-then-lo-v c = rw (le-leb _ _ c.if-lo-v.true)

pub returns-else-lo-v : goal.returns-else-lo-v
unfolding ranged_of both
returns-else-lo-v c = rw (lt-leb _ _ c.if-lo-v.false)
