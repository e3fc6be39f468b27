use Rattle.numbers.proofs.Runs.{num_parts}
use Rattle.numbers.proofs.Products.{whole_small, parts_fit}
use Rattle.numbers.proofs.parts.Goals as goal

pub raised-whole-requires : goal.raised-whole-requires
raised-whole-requires c = search whole_small

pub overflow_add-whole : goal.overflow_add-whole
overflow_add-whole c = search parts_fit

pub returns : goal.returns
returns c = search num_parts
