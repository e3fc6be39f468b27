-- ORIGX1-3 and SCALE1-3: their columns 7 to 80.
use Rattle.ascii.specs.Library.{Bool, true, false, ℤ}
use Rattle.fields.specs.Format.{Format, real_f, none_f, ◌then◌, after, held, shut}
use Rattle.kinds.specs.declared.{Kind.Kind}
use Rattle.transform.specs.declared.{Axis.Axis, Coefficients.Coefficients, Transform.Transform}
use Rattle.kinds.specs.declared.Kind.TheVariants as kind
use Rattle.transform.specs.declared.Axis.TheVariants as axis

-- SCALE (true) or ORIGX, of an axis
abbrev pub transform_kind : Bool → Axis → Kind
transform_kind false axis.X = kind.Origx1
transform_kind false axis.Y = kind.Origx2
transform_kind false axis.Z = kind.Origx3
transform_kind true axis.X = kind.Scale1
transform_kind true axis.Y = kind.Scale2
transform_kind true axis.Z = kind.Scale3

-- ---- columns 11 to 40: the coefficients of x 11-20, y 21-30, z 31-40, each Real(10.6), in millionths
abbrev pub coefficient_f : Format ℤ
coefficient_f = real_f 10 6 99999999 999999999

unfoldable pub coefficients_columns : Format Coefficients
coefficients_columns =
    held (coefficient_f then coefficient_f then coefficient_f) (λ (x, (y, z)). record { x = x; y = y; z = z }) (λ c. (c.x, (c.y, c.z)))

abbrev pub coefficients_f : Format Coefficients
coefficients_f = shut 30 coefficients_columns

-- ---- columns 7 to 80: the coefficients, and the shift 46-55, Real(10.5), in hundred-thousandths
abbrev pub shift_f : Format ℤ
shift_f = real_f 10 5 99999999 999999999

unfoldable pub transform_columns : Format Transform
transform_columns =
    held (after 4 (coefficients_f then after 5 (shift_f then after 25 none_f)))
    (λ (by, (shift, none)). record { by = by; shift = shift }) (λ t. (t.by, (t.shift, tt)))

abbrev pub transform_f : Format Transform
transform_f = shut 74 transform_columns
