use Rattle.std.proofs.Common.{rules}
use lib.ListN.{length}
use mathlib.Core.Path.{◌≡◌}
use Rattle.ascii.proofs.Bools.{and_both, or_either}
use Rattle.names.proofs.is_bond_name.Goals as goal

pub returns : goal.returns
returns c = let e : length c.args.n ≡ 4 = search rules in simp (e, and_both, or_either) cc
