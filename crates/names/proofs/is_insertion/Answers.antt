use Rattle.ascii.proofs.Bools.{or_either}
use Rattle.names.proofs.is_insertion.Goals as goal

pub returns : goal.returns
returns c = simp or_either cc
