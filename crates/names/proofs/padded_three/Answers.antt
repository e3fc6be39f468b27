use Rattle.ascii.proofs.Bools.{and_both, or_either}
use Rattle.names.proofs.padded_three.Goals as goal

pub returns : goal.returns
returns c = simp (and_both, or_either) cc
