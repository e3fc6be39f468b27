use Rattle.std.proofs.Common.{rules}
use lib.ListN.{length}
use mathlib.Core.Path.{◌≡◌}
use Rattle.ascii.specs.Tests.{same}
use Rattle.ascii.proofs.Bools.{and_both, or_either}
use Rattle.names.proofs.is_charge.Goals as goal

pub returns : goal.returns
unfolding same
returns c = let e : length c.args.p ≡ 2 = search rules in simp (e, and_both, or_either) cc
