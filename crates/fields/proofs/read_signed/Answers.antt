use Rattle.fields.proofs.Returns.{integer_bad, integer_zero, integer_minus, integer_plus, answered_small}
use Rattle.fields.proofs.read_signed.Goals.{else-d-via-then-d+else-d-eq0, else-d-via-else-d}
use Rattle.fields.proofs.read_signed.Goals as goal

pub returns-in_default : goal.returns-in_default
returns-in_default c = integer_bad _ _ _ _ c.in_default.ensures

pub returns-then-d-eq0 : goal.returns-then-d-eq0
returns-then-d-eq0 c = integer_zero _ _ _ _ _ c.in-Some.ensures c.if-d.true c.if-d-eq0.true

pub joined-requires : goal.joined-requires
joined-requires c = answered_small _ _ _ _ _ c.in-Some.ensures c.requires.0 c.requires.4 c.requires.5

pub returns : goal.returns
returns c = elim c.else-d.branch [
  | else-d-via-then-d+else-d-eq0 w ↦ integer_minus _ _ _ _ _ c.in-Some.ensures _ w.if-d.true w.if-d-eq0.false c.joined.ensures (search)
  | else-d-via-else-d w ↦ integer_plus _ _ _ _ _ c.in-Some.ensures _ w.if-d.false c.joined.ensures (search)
]
