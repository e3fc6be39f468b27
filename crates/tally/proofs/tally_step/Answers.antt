use Rattle.tally.proofs.Laws.{step_raised, step_full, step_none}
use Rattle.tally.proofs.tally_step.Goals as goal

pub returns-then-count_in-lt-MOST : goal.returns-then-count_in-lt-MOST
returns-then-count_in-lt-MOST c = rw c.in-Some.is (step_raised _ _ _ _ c.count_in.ensures c.if-count_in-lt-MOST.true c.raise_tally.ensures)

pub returns-else-count_in-lt-MOST : goal.returns-else-count_in-lt-MOST
returns-else-count_in-lt-MOST c = rw c.in-Some.is (step_full _ _ _ c.count_in.ensures c.if-count_in-lt-MOST.false)

pub returns-in-None : goal.returns-in-None
returns-in-None c = rw c.in-None.is (step_none c.args.t)
