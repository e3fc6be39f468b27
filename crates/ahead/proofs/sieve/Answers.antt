use native.Mathlib.Omega.{arith}
use Rattle.ahead.proofs.Filter.{unmarked, untold}
use Rattle.ahead.proofs.sieve.Goals as goal

pub returns : goal.returns
returns c = (omega arith, omega arith, unmarked _ _ _ _ _ c.requires.2 (untold _ _ _ _ c.place_of-at.ensures.0 c.tag_of.ensures c.if-v-tag_of.false c.if-v.false))
