use mathlib.Core.Path.{◌≡◌, sym, ◌∙◌, ap}
use native.Mathlib.Omega.{arith}
use Rattle.refusals.specs.Numbers.{number_of}
use Rattle.refusals.proofs.Positive.{number_positive}
use Rattle.gate.specs.Gate.{number_told, told_by}
use Rattle.fractional.proofs.Looking.{scale_own, scale_there, scale_none, scale_le}
use Rattle.fractional.proofs.Scales.{rows_right}
use Rattle.fractional.proofs.scale_of.Goals as goal

pub returns-in-Some : goal.returns-in-Some
returns-in-Some c =
    let n : (told_by c.check.result).number ≡ number_of c.in-Some.o.refusal = ap number_told c.in-Some.is in
    rw (← n) (scale_own _ (told_by c.check.result) c.check.ensures.numbers (λ z. omega (arith, number_positive c.in-Some.o.refusal, sym n ∙ z)))

pub overflow_add-last : goal.overflow_add-last
overflow_add-last c = omega (arith, scale_le _ _ c.scale_at-i.ensures)

pub returns-then-last-text : goal.returns-then-last-text
returns-then-last-text c = scale_none _ (told_by c.check.result) c.check.ensures.numbers (ap number_told c.in_default.is) _ c.scale_at-i.ensures (omega arith)

pub rows_at-requires : goal.rows_at-requires
rows_at-requires c =
    (omega arith, rows_right _ _ (ap (λ v. v.number) (sym c.check.ensures.numbers) ∙ ap number_told c.in_default.is) c.scale_at-i.ensures (omega arith))

pub returns : goal.returns
returns c = scale_there _ (told_by c.check.result) c.check.ensures.numbers (ap number_told c.in_default.is) _ c.scale_at-i.ensures _ (omega arith) c.rows_at.ensures
