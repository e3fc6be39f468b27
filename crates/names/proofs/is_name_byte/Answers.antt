use Rattle.ascii.specs.Tests.{same}
use Rattle.ascii.proofs.Bools.{or_either}
use Rattle.names.proofs.is_name_byte.Goals as goal

pub returns : goal.returns
unfolding same
returns c = simp or_either cc
