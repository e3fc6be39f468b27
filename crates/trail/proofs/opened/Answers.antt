use mathlib.Core.Path.{◌∙◌, sym}
use native.Mathlib.Nat.{le_trans}
use Rattle.trail.proofs.opened.Goals as goal

pub returns-clause-lo_le_start : goal.returns-clause-lo_le_start
returns-clause-lo_le_start c = (le_trans c.requires.2.seen.from_lo c.beyond.ensures.0, c.beyond.ensures.1, c.beyond.ensures.2 _ _ c.forearmed-watch.ensures.2.ahead (λ j g k e _. c.requires.2.seen.clear j g k (e ∙ sym c.requires.1)))
