use Rattle.std.proofs.Common.{None}
use Rattle.facets.proofs.Others.{line_others}
use Rattle.facets.specs.Facets.{bond_of}
use Rattle.facets.proofs.bond_in.Goals as goal

pub returns-in_default : goal.returns-in_default
returns-in_default c = rw (line_others None bond_of c.args.l c.in_default.not-Typed)

pub bond_of-requires : goal.bond_of-requires
bond_of-requires c = tt

pub returns : goal.returns
returns c = rw c.in-Typed.is c.bond_of.ensures
