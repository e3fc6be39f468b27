use Rattle.elements.specs.Elements.{elements}
use Rattle.elements.proofs.Rule.{from_table, past_table}
use Rattle.elements.proofs.atomic.Goals as goal

pub returns-then-i-lt702 : goal.returns-then-i-lt702
unfolding elements
returns-then-i-lt702 c = search from_table

pub returns : goal.returns
returns c = search past_table
