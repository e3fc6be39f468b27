use Rattle.fields.proofs.Returns.{spans_minus, spans_plus}
use Rattle.fields.proofs.spans.Goals.{then-negative, else-negative}
use Rattle.fields.proofs.spans.Goals as goal

pub returns : goal.returns
returns c = elim c.if-negative.branch [
  | then-negative w ↦ rw w.result-is (spans_minus _ _ _ c.ranges.z c.magnitude.ensures c.negative.ensures _ _ w.if-negative.true)
  | else-negative w ↦ rw w.result-is (spans_plus _ _ _ c.ranges.z c.magnitude.ensures c.negative.ensures _ _ w.if-negative.false)
]
