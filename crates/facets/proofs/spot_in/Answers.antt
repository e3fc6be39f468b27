use Rattle.std.proofs.Common.{None}
use Rattle.facets.proofs.Others.{line_others}
use Rattle.facets.specs.Facets.{spot_of}
use Rattle.facets.proofs.spot_in.Goals as goal

pub returns-in_default : goal.returns-in_default
returns-in_default c = rw (line_others None spot_of c.args.l c.in_default.not-Typed)

pub spot_of-requires : goal.spot_of-requires
spot_of-requires c = tt

pub returns : goal.returns
returns c = rw c.in-Typed.is c.spot_of.ensures
