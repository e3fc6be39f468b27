use Rattle.rules.specs.Rules.{carried_next}
use Rattle.rules.proofs.carried_next.Goals as goal

pub returns : goal.returns
unfolding carried_next
returns c = rw (c.raise.ensures, c.count_at.ensures, c.row_of.ensures)
