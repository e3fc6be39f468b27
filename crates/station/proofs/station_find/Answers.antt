use mathlib.Core.Path.{ap}
use Rattle.station.proofs.station_find.Goals as goal

pub returns : goal.returns
returns c = record {
  value = ap (λ j. j.line) c.find-j.ensures;
  looked_after = ap (λ j. j.looked) c.find-j.ensures;
}
