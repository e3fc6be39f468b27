use Rattle.std.proofs.Common.{rules}
use lib.ListN.{length}
use mathlib.Core.Path.{◌≡◌}
use Rattle.ascii.proofs.Bools.{and_both}
use Rattle.names.proofs.is_full.Goals as goal

pub returns : goal.returns
returns c = let e : length c.args.n ≡ 4 = search rules in simp (e, and_both) cc
