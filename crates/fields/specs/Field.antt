-- Numbers in fields: with a range, and with a sign.
use Rattle.std.specs.Prelude.{◌+◌, ◌*◌}
use Rattle.ascii.specs.Library.{ℕ, zero, suc, max, List, Bool, true, false, leb, ltb, eqb, ℤ, pos, negsuc, nat_abs, pick, both, alike}
use Rattle.numbers.specs.declared.{Number.Number}
use Rattle.numbers.specs.Number.{number_of}
use Rattle.std.specs.Prelude.{Result}
use Rattle.columns.specs.declared.{Column.Column}
use Rattle.columns.specs.Answers.{read_as}

-- the integer of a sign and a magnitude
unfoldable pub signed_of : Bool → ℕ → ℤ
signed_of false v = pos v
signed_of true zero = pos 0
signed_of true (suc v) = negsuc v

-- below zero
unfoldable pub is_neg : ℤ → Bool
is_neg (pos n) = false
is_neg (negsuc n) = true

-- equal numbers of either sign
abbrev pub same_integer : ℤ → ℤ → Bool
same_integer a b = both (alike (is_neg a) (is_neg b)) (eqb (nat_abs a) (nat_abs b))

-- one more than the largest number that n columns hold, with or without a minus
abbrev pub cap_of : ℕ → ℕ → Bool → ℕ
cap_of zero e m = 0
cap_of (suc zero) zero m = pick m 0 10
cap_of (suc (suc n)) zero m = 10 * max 1 (cap_of (suc n) 0 m)
cap_of (suc n) (suc zero) m = cap_of n 0 m
cap_of (suc n) (suc (suc e)) m = 10 * cap_of n (suc e) m

-- a field that is judged: the column of its fault, or 0, and its value
pub record Judged (A : Type 0) : Type 0 where
  pub column : ℕ
  pub value : A

abbrev pub Whole : Type 0
Whole = Judged ℕ

abbrev pub Signed : Type 0
Signed = Judged ℤ

-- what its reader answers
abbrev pub read_in : {A : Type 0} → Judged A → Result A Column
read_in r = read_as r.column r.value

-- a wrong field: its first column, and no value
abbrev pub wrong_whole : ℕ → Whole
wrong_whole at = record { column = at + 1; value = 0 }

-- a number in n columns from lo to hi
unfoldable pub whole_in : ℕ → ℕ → Number → ℕ → Whole
whole_in lo hi h at =
    pick h.good
    (pick h.minus (wrong_whole at)
    (pick (ltb h.mag lo) (wrong_whole at) (pick (ltb hi h.mag) (wrong_whole at) (record { column = 0; value = h.mag }))))
    (wrong_whole at)

-- n columns from `at`, e as in `number_of`: 0 for an Integer(n), d + 1 for a Real(n.d)
abbrev pub ranged_number : ℕ → ℕ → ℕ → ℕ → List ℕ → ℕ → Whole
ranged_number n e lo hi l at = whole_in lo hi (number_of l at n e) at

-- a wrong field
abbrev pub wrong_signed : ℕ → Signed
wrong_signed at = record { column = at + 1; value = pos 0 }

-- a number in n columns, a minus only below zero
unfoldable pub integer_in : Number → ℕ → Signed
integer_in h at =
    pick h.good
    (pick h.minus
    (pick (eqb h.mag 0) (wrong_signed at) (record { column = 0; value = signed_of true h.mag }))
    (record { column = 0; value = signed_of false h.mag }))
    (wrong_signed at)

-- n columns from `at`, e as in `number_of`: 0 for an Integer(n), d + 1 for a Real(n.d)
abbrev pub signed_number : ℕ → ℕ → List ℕ → ℕ → Signed
signed_number n e l at = integer_in (number_of l at n e) at

-- a number from lo to hi
unfoldable pub ranged_of : ℕ → ℕ → ℕ → Bool
ranged_of lo hi v = both (leb lo v) (leb v hi)

-- a number from -low to high
unfoldable pub spans_of : ℕ → ℕ → ℤ → Bool
spans_of low high z = leb (nat_abs z) (pick (is_neg z) low high)
