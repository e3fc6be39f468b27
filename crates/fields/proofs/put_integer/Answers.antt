use Rattle.fields.proofs.Returns.{integer_passed}
use Rattle.fields.proofs.put_integer.Goals as goal

pub returns : goal.returns
returns c = search integer_passed
