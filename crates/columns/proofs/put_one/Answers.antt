use Rattle.columns.proofs.Puts.{one_put}
use Rattle.columns.proofs.put_one.Goals as goal

pub returns : goal.returns
returns c = search one_put
