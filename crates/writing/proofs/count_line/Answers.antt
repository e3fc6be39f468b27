use Rattle.writing.proofs.Counting.{stays_counted, goes_uncounted}
use Rattle.writing.proofs.count_line.Goals as goal

pub returns-then-stay : goal.returns-then-stay
returns-then-stay c = stays_counted _ _ _ _ _ _ _ c.if-stay.true c.line_kind.ensures c.count_at.ensures c.raise.ensures

pub returns : goal.returns
returns c = goes_uncounted _ _ _ _ c.if-stay.false
