use Rattle.fields.proofs.Returns.{integer_passed}
use Rattle.fields.proofs.put_real.Goals as goal

pub returns : goal.returns
returns c = search integer_passed
