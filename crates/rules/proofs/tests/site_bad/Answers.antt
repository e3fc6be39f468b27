use Rattle.ascii.proofs.Bools.{and_both}
use Rattle.rules.specs.Rules.{site_bad}
use Rattle.rules.proofs.tests.site_bad.Goals as goal

pub returns-then-het : goal.returns-then-het
unfolding site_bad
returns-then-het c = simp (c.if-het.true, and_both)

pub returns-else-het : goal.returns-else-het
unfolding site_bad
returns-else-het c = simp (c.if-het.false, and_both)
