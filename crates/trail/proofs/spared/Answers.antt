use native.Mathlib.Omega.{arith}
use Rattle.trail.proofs.spared.Goals as goal

pub forearmed-requires : goal.forearmed-requires
forearmed-requires c = (omega (arith, c.nearest.ensures.0, c.requires.2.run.top_hi), c.requires.0, c.requires.1, c.found.ensures.1 _ _ c.nearest.ensures.1 c.requires.2)
