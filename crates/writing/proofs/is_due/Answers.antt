use mathlib.Core.Bool.{Bool, true, false, beq}
use mathlib.Core.Path.{◌≡◌, refl}
use Rattle.ascii.specs.Tests.{alike}
use Rattle.ascii.proofs.Bools.{or_either}
use Rattle.writing.proofs.is_due.Goals as goal

beq_alike : (a b : Bool) → beq a b ≡ alike a b
beq_alike true true = refl
beq_alike true false = refl
beq_alike false true = refl
beq_alike false false = refl

pub returns : goal.returns
returns c = simp (or_either, beq_alike, c.is_fence.ensures)
