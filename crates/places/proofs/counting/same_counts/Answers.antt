use Rattle.ascii.proofs.Bools.{and_both, both_assoc}
use Rattle.places.specs.Counts.{same_counts}
use Rattle.places.proofs.counting.same_counts.Goals as goal

pub returns : goal.returns
unfolding same_counts
returns c = simp (and_both, both_assoc)
