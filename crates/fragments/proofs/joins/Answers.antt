use Rattle.ascii.proofs.Bools.{and_both, or_either, both_assoc}
use Rattle.fragments.specs.Fragments.{joins}
use Rattle.fragments.proofs.joins.Goals as goal

pub returns : goal.returns
unfolding joins
returns c = simp (and_both, or_either, both_assoc, c.residue_of.ensures, c.same_residue-same.ensures, c.is_ter.ensures)
