use Rattle.places.specs.Counts.{raised}
use Rattle.places.proofs.counting.raise.Goals as goal

pub returns-in-Some : goal.returns-in-Some
returns-in-Some c = rw c.in-Some.is c.one_more.ensures

pub returns-in-None : goal.returns-in-None
unfolding raised
returns-in-None c = rw c.in-None.is
