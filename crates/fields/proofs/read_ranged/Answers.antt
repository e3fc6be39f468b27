use Rattle.fields.proofs.Returns.{whole_bad, whole_minus, whole_low, whole_high, whole_good}
use Rattle.fields.proofs.read_ranged.Goals.{then-d-via-then-d, then-d-via-else-d+then-d-lo, then-d-via-else-d+else-d-lo+then-hi-d}
use Rattle.fields.proofs.read_ranged.Goals as goal

pub returns-in_default : goal.returns-in_default
returns-in_default c = whole_bad _ _ _ _ _ _ c.in_default.ensures

pub returns-then-d : goal.returns-then-d
returns-then-d c = elim c.then-d.branch [
  | then-d-via-then-d w ↦ whole_minus _ _ _ _ _ _ _ c.in-Some.ensures w.if-d.true
  | then-d-via-else-d+then-d-lo w ↦ whole_low _ _ _ _ _ _ _ c.in-Some.ensures w.if-d.false w.if-d-lo.true
  | then-d-via-else-d+else-d-lo+then-hi-d w ↦ whole_high _ _ _ _ _ _ _ c.in-Some.ensures w.if-d.false w.if-d-lo.false w.if-hi-d.true
]

pub returns : goal.returns
returns c = whole_good _ _ _ _ _ _ _ c.in-Some.ensures c.if-d.false c.if-d-lo.false c.if-hi-d.false
