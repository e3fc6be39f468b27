use Rattle.fields.proofs.Returns.{integers}
use Rattle.fields.proofs.same_integer.Goals as goal

pub returns : goal.returns
returns c = integers _ _ (search) (search)
