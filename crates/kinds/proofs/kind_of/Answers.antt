use Rattle.kinds.proofs.Returns.{no_name, by_name}
use Rattle.kinds.proofs.kind_of.Goals as goal

pub returns-then-line-lt6 : goal.returns-then-line-lt6
returns-then-line-lt6 c = search no_name

pub returns : goal.returns
returns c = search by_name
