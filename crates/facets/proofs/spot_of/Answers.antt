use Rattle.facets.proofs.Others.{spot_others}
use Rattle.facets.proofs.spot_of.Goals as goal

pub returns-in-Coordinate : goal.returns-in-Coordinate
returns-in-Coordinate c = rw c.in-Coordinate.is

pub returns-in-Ter : goal.returns-in-Ter
returns-in-Ter c = rw c.in-Ter.is

pub returns-in_default : goal.returns-in_default
returns-in_default c = rw (spot_others c.args.r c.in_default.not-Coordinate c.in_default.not-Ter)
