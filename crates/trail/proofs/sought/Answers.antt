use native.Mathlib.Omega.{arith}
use mathlib.Core.Path.{◌∙◌}
use Rattle.trail.proofs.sought.Goals as goal

pub forearmed-requires : goal.forearmed-requires
forearmed-requires c = (c.looked-s.ensures.from_hi, c.requires.lo_le_hi.0, c.requires.lo_le_hi.1, c.found-v.ensures.1 _ _ c.looked-s.ensures c.requires.lo_le_hi.2)

pub forearmed-requires-then-recent : goal.forearmed-requires-then-recent
forearmed-requires-then-recent c = (c.requires.lo_le_hi.2.run.top_hi, c.requires.lo_le_hi.2.run.top_hi, c.requires.lo_le_hi.1, c.found-v.ensures.1 _ _ c.looked-s.ensures c.requires.lo_le_hi.2)

pub returns : goal.returns
returns c = (c.told.ensures.0 ∙ c.found-v.ensures.0, c.told.ensures.2 _ _ (λ j p a b. absurd (omega arith)) (c.found-v.ensures.1 _ _ c.looked-s.ensures c.requires.lo_le_hi.2))
