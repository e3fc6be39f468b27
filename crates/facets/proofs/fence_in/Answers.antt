use Rattle.std.proofs.Common.{None}
use Rattle.facets.proofs.Others.{line_others}
use Rattle.facets.specs.Facets.{fence_of}
use Rattle.facets.proofs.fence_in.Goals as goal

pub returns-in_default : goal.returns-in_default
returns-in_default c = rw (line_others None fence_of c.args.l c.in_default.not-Typed)

pub fence_of-requires : goal.fence_of-requires
fence_of-requires c = tt

pub returns : goal.returns
returns c = rw c.in-Typed.is c.fence_of.ensures
