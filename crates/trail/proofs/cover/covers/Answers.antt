use Rattle.ascii.proofs.Bools.{and_both, both_assoc}
use Rattle.trail.proofs.cover.covers.Goals as goal

pub returns : goal.returns
returns c = simp (and_both, both_assoc)
