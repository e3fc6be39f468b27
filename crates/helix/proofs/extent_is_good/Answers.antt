use Rattle.ascii.proofs.Bools.{and_both, both_assoc}
use Rattle.residue.proofs.Returns.{same_range}
use Rattle.ascii.specs.Tests.{same}
use Rattle.helix.specs.Helices.{extent_columns}
use Rattle.helix.proofs.extent_is_good.Goals as goal

pub returns : goal.returns
unfolding extent_columns same
returns c = simp (and_both, both_assoc, c.ranged.ensures, c.is_identifier.ensures, c.is_good.ensures, c.is_good-2.ensures, same_range 1 c.args.e.first, same_range 1 c.args.e.last)
