use Rattle.feed.proofs.Returns.{dot_drawn, dot_none}
use Rattle.feed.proofs.dot.Goals as goal

pub returns-then-is_drawn : goal.returns-then-is_drawn
returns-then-is_drawn c = dot_drawn _ _ c.is_drawn.ensures _ c.if-is_drawn.true c.exact_point.ensures

pub returns-else-is_drawn : goal.returns-else-is_drawn
returns-else-is_drawn c = dot_none _ _ c.is_drawn.ensures c.if-is_drawn.false
