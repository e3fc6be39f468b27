use Rattle.fields.proofs.Returns.{integer_put}
use Rattle.fields.proofs.put_signed.Goals as goal

pub returns : goal.returns
returns c = search integer_put
