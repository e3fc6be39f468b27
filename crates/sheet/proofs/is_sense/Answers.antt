use Rattle.sheet.proofs.Sense.{sense_least, sense_below}
use Rattle.sheet.proofs.is_sense.Goals as goal

pub returns-then-z-geminus1 : goal.returns-then-z-geminus1
returns-then-z-geminus1 c = sense_least _ c.ranges.z c.if-z-geminus1.true

pub returns-else-z-geminus1 : goal.returns-else-z-geminus1
returns-else-z-geminus1 c = sense_below _ c.ranges.z c.if-z-geminus1.false
