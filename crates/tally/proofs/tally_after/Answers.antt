use Rattle.tally.proofs.Laws.{line_named, line_unknown}
use Rattle.tally.proofs.tally_after.Goals as goal

pub returns-then-is_named : goal.returns-then-is_named
returns-then-is_named c = line_named _ _ _ _ _ c.kind_of-k.ensures c.is_named.ensures _ _ c.if-is_named.true c.count_at.ensures c.tally_step.ensures

pub returns-else-is_named : goal.returns-else-is_named
returns-else-is_named c = line_unknown _ _ _ _ _ c.kind_of-k.ensures c.is_named.ensures c.if-is_named.false
