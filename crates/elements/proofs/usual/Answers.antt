use Rattle.std.proofs.Common.{rules}
use mathlib.Core.Path.{◌≡◌}
use lib.ListN.{length}
use Rattle.ascii.specs.Tests.{same}
use Rattle.ascii.proofs.Bools.{and_both, or_either}
use Rattle.elements.specs.Elements.{usual_of}
use Rattle.elements.proofs.usual.Goals as goal

pub returns : goal.returns
unfolding usual_of same
returns c = let e : length c.args.p ≡ 2 = search rules in simp (e, and_both, or_either)
