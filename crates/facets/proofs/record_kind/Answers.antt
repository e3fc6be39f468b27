use Rattle.facets.proofs.record_kind.Goals as goal

pub returns-then-het : goal.returns-then-het
returns-then-het c = rw (c.in-Coordinate.is, c.if-het.true)

pub returns-else-het : goal.returns-else-het
returns-else-het c = rw (c.in-Coordinate.is, c.if-het.false)

pub returns-in-Transform : goal.returns-in-Transform
returns-in-Transform c = rw (c.in-Transform.is, c.kind_of.ensures)
