-- The fractional place of three coordinates.
use Rattle.ascii.specs.Library.{ℕ, List, ℤ, pos, nat_abs, pick}
use Rattle.std.specs.Prelude.{◌+◌, ◌/◌, ◌+ℤ◌, ◌*ℤ◌, Result, Ok, Err}
use Rattle.fields.specs.Field.{signed_of, is_neg}
use Rattle.coordinate.specs.declared.{Position.Position}
use Rattle.coordinate.specs.Atoms.{position_f}
use Rattle.transform.specs.declared.{Transform.Transform}
use Rattle.fractional.specs.declared.{Rows.Rows, Fraction.Fraction, Fractional.Fractional}
use Rattle.fractional.specs.Scale.{scale_of}

-- a row times three coordinates and its shift, in billionths: millionths times thousandths, and hundred-thousandths times 10,000
unfoldable pub billionths : Transform → Position → ℤ
billionths r p = r.by.x *ℤ p.x +ℤ r.by.y *ℤ p.y +ℤ r.by.z *ℤ p.z +ℤ r.shift *ℤ pos 10000

-- billionths in hundred-thousandths: the nearest, a half away from zero
unfoldable pub nearest : ℤ → ℤ
nearest z = signed_of (is_neg z) ((nat_abs z + 5000) / 10000)

-- the three numbers, and the three near them
abbrev pub exact_of : Rows → Position → Fraction
exact_of r p = record { x = billionths r.x p; y = billionths r.y p; z = billionths r.z p }

abbrev pub near_of : Fraction → Fraction
near_of f = record { x = nearest f.x; y = nearest f.y; z = nearest f.z }

-- 33: a coordinate is out of its range
unfoldable pub place_of : Rows → Position → Result Fractional ℕ
place_of r p = pick (position_f.ok p) (Ok (record { exact = exact_of r p; near = near_of (exact_of r p) })) (Err 33)

-- the place by the rows of a text
abbrev pub placed_by : Result Rows ℕ → Position → Result Fractional ℕ
placed_by (Ok r) p = place_of r p
placed_by (Err n) p = Err n

unfoldable pub fractional_of : List ℕ → Position → Result Fractional ℕ
fractional_of t p = placed_by (scale_of t) p
