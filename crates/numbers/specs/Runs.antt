-- How the code reads a number from the left. (Nothing here says what a number is: `Number` does, and the two agree.)
use Rattle.std.specs.Prelude.{◌+◌, ◌*◌, ◌-◌, ◌/◌, ◌%◌}
use Rattle.ascii.specs.Library.{ℕ, zero, suc, List, Bool, true, false, get_or, eqb, byte, pick, both, is_digit}
use Rattle.numbers.specs.declared.{Number.Number, Scan.Scan}
use Rattle.numbers.specs.Number.{none}

-- what a byte counts as a digit
unfoldable pub value_of : ℕ → ℕ
value_of b = pick (is_digit b) (b - byte "0") 0

-- the number of n digits of four bits
unfoldable pub dec_of : ℕ → ℕ → ℕ
dec_of w zero = 0
dec_of w (suc n) = 10 * dec_of (w / 16) n + w % 16

-- what the columns passed are, with one column more
unfoldable pub step_of : Scan → ℕ → Scan
step_of s b =
    record {
      blank = both s.blank (eqb b (byte " "));
      lead = both s.blank (pick (eqb b (byte " ")) true (eqb b (byte "-")));
      minus = pick (eqb b (byte "-")) true s.minus;
      ends = is_digit b;
      good = both (is_digit b) (pick s.ends (both s.good (pick (eqb s.code 0) false true)) s.lead);
      code = 16 * s.code + value_of b;
    }

-- n columns from `at`
unfoldable pub scan_of : List ℕ → ℕ → ℕ → Scan
scan_of l at zero = record { blank = true; lead = true; minus = false; ends = false; good = false; code = 0 }
scan_of l at (suc n) = step_of (scan_of l at n) (get_or l (at + n) 0)

-- one decimal more
unfoldable pub taken_of : Number → ℕ → Number
taken_of h b = record { good = both h.good (is_digit b); minus = h.minus; mag = 16 * h.mag + value_of b }

-- n decimals from `at`, after what h has
unfoldable pub decimals_of : List ℕ → ℕ → Number → ℕ → Number
decimals_of l at h zero = h
decimals_of l at h (suc n) = taken_of (decimals_of l at h n) (get_or l (at + n) 0)

-- the number of a sign and a magnitude, or none
unfoldable pub made_of : Bool → Bool → ℕ → Number
made_of good minus mag = pick good (record { good = true; minus = minus; mag = mag }) none
