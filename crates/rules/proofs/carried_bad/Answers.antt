use Rattle.rules.proofs.Laws.{pick_either}
use Rattle.rules.proofs.carried_bad.Goals as goal

pub returns-then-misplaced : goal.returns-then-misplaced
returns-then-misplaced c = rw (← pick_either, ← c.misplaced.ensures, c.if-misplaced.true)

pub returns-then-unfinished : goal.returns-then-unfinished
returns-then-unfinished c = rw (← pick_either, ← c.misplaced.ensures, c.if-misplaced.false, ← c.unfinished.ensures, c.if-unfinished.true)

pub returns : goal.returns
returns c = rw (← pick_either, ← c.misplaced.ensures, c.if-misplaced.false, ← c.unfinished.ensures, c.if-unfinished.false)
