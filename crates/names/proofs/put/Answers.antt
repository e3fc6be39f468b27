use Rattle.std.proofs.Common.{rules}
use mathlib.Core.Path.{◌≡◌}
use lib.ListN.{length}
use Rattle.names.proofs.Bytes.{name_put}
use Rattle.names.proofs.put.Goals as goal

pub returns : goal.returns
returns g c = let e : length c.args.name ≡ g.row.N = search rules in rw c.copy_from_slice.ensures.after (name_put g.row.N c.args.line.now c.args.name c.args.at c.requires e)
