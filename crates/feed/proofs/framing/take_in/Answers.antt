use Rattle.feed.proofs.Returns.{take_drawn, take_none}
use Rattle.feed.proofs.framing.take_in.Goals as goal

pub returns-then-is_drawn : goal.returns-then-is_drawn
returns-then-is_drawn c = take_drawn _ _ _ c.is_drawn.ensures _ c.if-is_drawn.true c.reach.ensures

pub returns-else-is_drawn : goal.returns-else-is_drawn
returns-else-is_drawn c = take_none _ _ _ c.is_drawn.ensures c.if-is_drawn.false
