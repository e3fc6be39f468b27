use Rattle.ascii.proofs.Bools.{and_both, or_either, both_assoc}
use Rattle.rules.specs.Rules.{strand_bad}
use Rattle.rules.proofs.tests.strand_bad.Goals as goal

pub returns-then-unfinished : goal.returns-then-unfinished
unfolding strand_bad
returns-then-unfinished c = simp (and_both, both_assoc, ← c.unfinished.ensures, c.if-unfinished.true, c.eq-same.ensures)

pub returns-else-unfinished : goal.returns-else-unfinished
unfolding strand_bad
returns-else-unfinished c = simp (and_both, or_either, ← c.unfinished.ensures, c.if-unfinished.false, c.eq-same.ensures)
