use borrow.Author.Tests.{lt-ltb, le-ltb}
use Rattle.reporting.specs.Report.{report_of}
use Rattle.reporting.proofs.report_on.Goals as goal

pub returns-then-text-gt65529-clause-numbers : goal.returns-then-text-gt65529-clause-numbers
unfolding report_of
returns-then-text-gt65529-clause-numbers c = rw (lt-ltb _ _ c.if-text-gt65529.true, c.no_counts.ensures)

pub returns-clause-numbers : goal.returns-clause-numbers
unfolding report_of
returns-clause-numbers c = rw (le-ltb _ _ c.if-text-gt65529.false) c.check.ensures.numbers
