use Rattle.ascii.proofs.Bools.{and_both, both_assoc, both_true}
use Rattle.helix.specs.Helices.{helix_columns}
use Rattle.helix.proofs.HelixLayout.is_good.Goals as goal

pub returns : goal.returns
unfolding helix_columns
returns c = simp (and_both, both_assoc, both_true, c.extent_is_good.ensures, c.ranged.ensures, c.comment_is_good.ensures, c.ranged-2.ensures)
