use mathlib.Core.Path.{refl}
use Rattle.ascii.specs.Tests.{same}
use Rattle.names.proofs.is_blank.Goals as goal

pub returns : goal.returns
unfolding same
returns c = refl
