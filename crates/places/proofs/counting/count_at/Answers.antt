use mathlib.Core.Path.{◌∙◌}
use Rattle.ascii.specs.Tests.{both}
use Rattle.places.proofs.counting.count_at.Goals as goal
use Rattle.places.proofs.counting.count_at.Goals.{else-past-via-then-past+else-r, else-past-via-else-past}

pub returns-then-r : goal.returns-then-r
unfolding both
returns-then-r c = rw (← c.row_of-r.ensures, c.if-past.true, c.if-r.true)

pub returns-else-past : goal.returns-else-past
unfolding both
returns-else-past c = c.numbered.ensures ∙ elim c.else-past.branch [
  | else-past-via-then-past+else-r w ↦ rw (← c.row_of-r.ensures, w.if-past.true, w.if-r.false)
  | else-past-via-else-past w ↦ rw (← c.row_of-r.ensures, w.if-past.false)
]
