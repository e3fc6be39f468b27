-- Numbers in columns. A number stands in n columns from index `at`, right-justified: blanks, perhaps a minus, digits,
-- and where it has decimals a point and those digits.
use Rattle.std.specs.Prelude.{◌+◌, ◌*◌, ◌-◌, ◌/◌, ◌%◌, ◌∷◌, ◌++◌}
use Rattle.ascii.specs.Library.{ℕ, zero, suc, List, [], Bool, true, false, get_or, ltb, eqb, byte, pick, is_digit}
use Rattle.columns.specs.Columns.{gap_of, blanks}
use Rattle.std.specs.Prelude.{Option, Some, None}
use Rattle.numbers.specs.declared.{Number.Number, Decimal.Decimal}

-- whether the last of n columns is a digit
unfoldable pub ends_digit : List ℕ → ℕ → ℕ → Bool
ends_digit l at zero = false
ends_digit l at (suc n) = is_digit (get_or l (at + n) 0)

-- no number
abbrev pub none : Number
none = record { good = false; minus = false; mag = 0 }

-- a first digit b after n columns that are blank, or blank but for a minus at their end
unfoldable pub lead_of : List ℕ → ℕ → ℕ → ℕ → Number
lead_of l at zero b = record { good = true; minus = false; mag = b - byte "0" }
lead_of l at (suc n) b =
    pick (eqb (gap_of l at n) 0)
    (pick (eqb (get_or l (at + n) 0) (byte " ")) (record { good = true; minus = false; mag = b - byte "0" })
    (pick (eqb (get_or l (at + n) 0) (byte "-")) (record { good = true; minus = true; mag = b - byte "0" }) none))
    none

-- a number and one digit more
unfoldable pub further_of : Number → ℕ → Number
further_of h b = pick h.good (record { good = true; minus = h.minus; mag = 10 * h.mag + (b - byte "0") }) none

-- the same where the number stands before the point: it is not 0
unfoldable pub grown_of : Number → ℕ → Number
grown_of h b = pick (eqb h.mag 0) none (further_of h b)

-- The number in n columns from `at`. e is 0 where no point is to come, else one more than the number of decimals that are left.
unfoldable pub number_of : List ℕ → ℕ → ℕ → ℕ → Number
number_of l at zero e = none
number_of l at (suc n) zero =
    pick (is_digit (get_or l (at + n) 0))
    (pick (ends_digit l at n) (grown_of (number_of l at n 0) (get_or l (at + n) 0)) (lead_of l at n (get_or l (at + n) 0)))
    none
number_of l at (suc n) (suc zero) = pick (eqb (get_or l (at + n) 0) (byte ".")) (number_of l at n 0) none
number_of l at (suc n) (suc (suc e)) =
    pick (is_digit (get_or l (at + n) 0)) (further_of (number_of l at n (suc e)) (get_or l (at + n) 0)) none

-- what a reader answers of it
abbrev pub given : Number → Option Decimal
given h = pick h.good (Some (record { minus = h.minus; mag = h.mag })) None

-- ---- writing
-- what stands before the first digit: blanks, the last of which gives way to a minus
unfoldable pub leader : ℕ → Bool → List ℕ
leader zero m = []
leader (suc n) m = blanks n ++ (pick m (byte "-") (byte " ") ∷ [])

-- the last digit of v
abbrev pub digit_of : ℕ → ℕ
digit_of v = byte "0" + v % 10

-- a number v in n columns, with e as in `number_of`
unfoldable pub render : ℕ → ℕ → Bool → ℕ → List ℕ
render zero e m v = []
render (suc n) zero m v = pick (ltb v 10) (leader n m) (render n 0 m (v / 10)) ++ (digit_of v ∷ [])
render (suc n) (suc zero) m v = render n 0 m v ++ (byte "." ∷ [])
render (suc n) (suc (suc e)) m v = render n (suc e) m (v / 10) ++ (digit_of v ∷ [])

-- whether it has room there
unfoldable pub room : ℕ → ℕ → Bool → ℕ → Bool
room zero e m v = false
room (suc n) zero m v = pick (ltb v 10) (pick m (ltb 0 n) true) (room n 0 m (v / 10))
room (suc n) (suc zero) m v = room n 0 m v
room (suc n) (suc (suc e)) m v = room n (suc e) m (v / 10)
