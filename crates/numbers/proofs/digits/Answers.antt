use Rattle.numbers.proofs.Products.{scale_one}
use Rattle.numbers.proofs.digits.Goals as goal

pub scaled-requires : goal.scaled-requires
scaled-requires c = search scale_one
