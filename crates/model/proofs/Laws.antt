-- MODEL is lawful. Assumes nothing.
use mathlib.Core.Path.{refl}
use Rattle.fields.proofs.Formats.{Lawful, whole_lawful, none_lawful, then_lawful, after_lawful, held_lawful}
use Prim.Native.Nat.{ℕ}
use Rattle.model.specs.declared.Model.{Model}
use Rattle.model.specs.Models.{model_f, model_columns}

abbrev to : (ℕ × Unit {0}) → Model
to = λ (number, none). record { number = number }

abbrev from : Model → (ℕ × Unit {0})
from m = (m.number, tt)

pub model_lawful : Lawful model_f 6
unfolding model_columns
model_lawful =
    held_lawful to from (λ m. refl) (λ f. refl)
    (after_lawful 4 (then_lawful (whole_lawful 4 1 9999 tt) (after_lawful 66 none_lawful)))
