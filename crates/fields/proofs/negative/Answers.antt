use Rattle.fields.proofs.Signs.{sign_is}
use Rattle.fields.proofs.negative.Goals as goal

pub returns : goal.returns
returns c = search sign_is
