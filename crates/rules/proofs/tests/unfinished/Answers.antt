use mathlib.Core.Path.{refl}
use Rattle.rules.specs.Rules.{unfinished}
use Rattle.rules.proofs.tests.unfinished.Goals as goal

pub returns : goal.returns
unfolding unfinished
returns c = refl
