use Rattle.fractional.proofs.Whole.{signed_minus, signed_plus}
use Rattle.fractional.proofs.signed.Goals as goal

pub returns-then-minus : goal.returns-then-minus
returns-then-minus c = signed_minus _ c.requires _ c.if-minus.true

pub returns : goal.returns
returns c = signed_plus _ c.requires _ c.if-minus.false
