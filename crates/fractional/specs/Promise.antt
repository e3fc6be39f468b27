-- What the rows of a text and a fractional place are, beyond their definitions: the statements. They are proved in proofs/.
use Rattle.ascii.specs.Library.{ℕ, List, true, false, ℤ, pos, nat_abs}
use Rattle.std.specs.Prelude.{◌+◌, ◌*◌, ◌%◌, ◌≤◌, ◌≡◌, ◌-ℤ◌, ◌*ℤ◌, Ok, Err}
use Rattle.fields.specs.Field.{is_neg}
use Rattle.kinds.specs.Kinds.{is}
use Rattle.coordinate.specs.declared.{Position.Position}
use Rattle.coordinate.specs.Atoms.{position_f}
use Rattle.transform.specs.declared.{Axis.Axis, Axis.TheVariants.X, Axis.TheVariants.Y, Axis.TheVariants.Z, Transform.Transform}
use Rattle.transform.specs.Transforms.{transform_f, transform_kind}
use Rattle.pieces.specs.declared.{Line.TheVariants.Typed}
use Rattle.facets.specs.Facets.{line_kind}
use Rattle.rows.specs.Text.{row}
use Rattle.gate.specs.Gate.{check_of}
use Rattle.fractional.specs.declared.{Rows.Rows}
use Rattle.fractional.specs.Scale.{scale_of}
use Rattle.fractional.specs.Place.{billionths, nearest}
use Rattle.line.specs.declared.Record.TheVariants as rec

pub record Scales (t : List ℕ) : Type 0 where
  -- a text that is not accepted gets its own number
  pub own : ((check_of t).number ≡ 0 → ⊥) → scale_of t ≡ Err (check_of t).number
  -- in an accepted text the rows are the numbers of three lines in a row: SCALE1, SCALE2, SCALE3
  pub rows : (r : Rows) → (check_of t).number ≡ 0 → scale_of t ≡ Ok r
      → (i : ℕ) × (row t i ≡ Typed (rec.Transform true X r.x)) × (row t (i + 1) ≡ Typed (rec.Transform true Y r.y)) × (row t (i + 2) ≡ Typed (rec.Transform true Z r.z))
  -- an accepted text gets 29 only where none of its lines is a SCALE line
  pub none : (check_of t).number ≡ 0 → (n : ℕ) → scale_of t ≡ Err n → (n ≡ 29) × ((i : ℕ) (axis : Axis) → is (transform_kind true axis) (line_kind (row t i)) ≡ false)

pub record Places : Type 0 where
  -- hundred-thousandths are never more than 5,000 billionths off
  pub near : (z : ℤ) → nat_abs (z -ℤ nearest z *ℤ pos 10000) ≤ 5000
  -- a half goes away from zero
  pub half : (z : ℤ) → nat_abs z % 10000 ≡ 5000 → 10000 * nat_abs (nearest z) ≡ nat_abs z + 5000
  -- a number above zero does not fall below it, nor the other way round
  pub side : (z : ℤ) → is_neg (nearest z) ≡ true → is_neg z ≡ true
  -- the farthest place by the numbers of a line and coordinates in their ranges
  pub worst : (r : Transform) (p : Position) → transform_f.ok r ≡ true → position_f.ok p ≡ true → nat_abs (billionths r p) ≤ 30009996969990003
  -- by any numbers of 32 bits: far below 2 to the power of 63
  pub any : (r : Transform) (p : Position) → nat_abs r.by.x ≤ 2147483648 → nat_abs r.by.y ≤ 2147483648 → nat_abs r.by.z ≤ 2147483648 → nat_abs r.shift ≤ 2147483648
      → position_f.ok p ≡ true → nat_abs (billionths r p) ≤ 64445977834029056
