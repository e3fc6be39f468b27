use Rattle.std.proofs.Common.{None}
use Rattle.facets.proofs.Others.{line_others}
use Rattle.facets.specs.Facets.{total_of}
use Rattle.facets.proofs.total_in.Goals as goal

pub returns-in_default : goal.returns-in_default
returns-in_default c = rw (line_others None total_of c.args.l c.in_default.not-Typed)

pub total_of-requires : goal.total_of-requires
total_of-requires c = tt

pub returns : goal.returns
returns c = rw c.in-Typed.is c.total_of.ensures
