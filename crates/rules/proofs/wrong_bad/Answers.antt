use Rattle.rules.proofs.Laws.{pick_either}
use Rattle.rules.proofs.wrong_bad.Goals as goal

pub returns-then-misplaced : goal.returns-then-misplaced
returns-then-misplaced c = rw (← pick_either, ← c.misplaced.ensures, c.if-misplaced.true)

pub returns : goal.returns
returns c = rw (← pick_either, ← c.misplaced.ensures, c.if-misplaced.false)
