use Rattle.ascii.specs.Tests.{both}
use Rattle.serials.proofs.shut.Goals as goal

pub returns-then-has_line-2 : goal.returns-then-has_line-2
unfolding both
returns-then-has_line-2 c = rw (← c.has_line.ensures, c.if-has_line.true, ← c.has_line-then-has_line.ensures, c.if-has_line-2.true)

pub returns-else-has_line-2 : goal.returns-else-has_line-2
unfolding both
returns-else-has_line-2 c = rw (← c.has_line.ensures, c.if-has_line.true, ← c.has_line-then-has_line.ensures, c.if-has_line-2.false)

pub returns-else-has_line : goal.returns-else-has_line
unfolding both
returns-else-has_line c = rw (← c.has_line.ensures, c.if-has_line.false)
