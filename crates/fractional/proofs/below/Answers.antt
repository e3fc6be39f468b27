use Rattle.fractional.proofs.Whole.{sign_is}
use Rattle.fractional.proofs.below.Goals as goal

pub returns : goal.returns
returns c = search sign_is
