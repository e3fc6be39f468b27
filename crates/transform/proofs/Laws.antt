-- ORIGX and SCALE are lawful. Assumes nothing.
use mathlib.Core.Path.{refl}
use Prim.Native.Nat.{ℕ}
use lib.IntN.{ℤ}
use Rattle.fields.proofs.Formats.{Lawful, real_lawful, none_lawful, then_lawful, after_lawful, held_lawful}
use Rattle.transform.specs.declared.Coefficients.{Coefficients}
use Rattle.transform.specs.declared.Transform.{Transform}
use Rattle.transform.specs.Transforms.{coefficient_f, coefficients_f, coefficients_columns, shift_f, transform_f, transform_columns}

coefficient_lawful : {begin : ℕ} → Lawful coefficient_f begin
coefficient_lawful = real_lawful 10 6 99999999 999999999 refl refl

shift_lawful : {begin : ℕ} → Lawful shift_f begin
shift_lawful = real_lawful 10 5 99999999 999999999 refl refl

abbrev to_coefficients : (ℤ × (ℤ × ℤ)) → Coefficients
to_coefficients = λ (x, (y, z)). record { x = x; y = y; z = z }

abbrev from_coefficients : Coefficients → (ℤ × (ℤ × ℤ))
from_coefficients c = (c.x, (c.y, c.z))

coefficients_lawful : {begin : ℕ} → Lawful coefficients_f begin
unfolding coefficients_columns
coefficients_lawful =
    held_lawful to_coefficients from_coefficients (λ c. refl) (λ f. refl) (then_lawful coefficient_lawful (then_lawful coefficient_lawful coefficient_lawful))

abbrev to_transform : (Coefficients × (ℤ × Unit {0})) → Transform
to_transform = λ (by, (shift, none)). record { by = by; shift = shift }

abbrev from_transform : Transform → (Coefficients × (ℤ × Unit {0}))
from_transform t = (t.by, (t.shift, tt))

pub transform_lawful : Lawful transform_f 6
unfolding transform_columns
transform_lawful =
    held_lawful to_transform from_transform (λ t. refl) (λ f. refl)
    (after_lawful 4 (then_lawful coefficients_lawful (after_lawful 5 (then_lawful shift_lawful (after_lawful 25 none_lawful)))))
