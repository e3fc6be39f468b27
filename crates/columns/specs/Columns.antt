-- Columns of a line. A line is its list of bytes, and `at` is an index: column `at + 1`. A fault is a column, and 0 is none.
use Rattle.std.specs.Prelude.{◌+◌, ◌≡◌, ◌∷◌, ◌++◌}
use Rattle.ascii.specs.Library.{ℕ, zero, suc, min, List, [], Bool, true, get_or, take, drop, eqb, byte, pick, both, between}

-- the n columns from index `at`
abbrev pub cols : List ℕ → ℕ → ℕ → List ℕ
cols l at n = take n (drop at l)

-- ---- faults
-- the first column of a field at index `at`, where the field is wrong
unfoldable pub blame : Bool → ℕ → ℕ
blame right at = pick right 0 (at + 1)

-- the column that a rule between fields blames, where the rule is broken
unfoldable pub blamed_of : Bool → ℕ → ℕ
blamed_of right column = pick right 0 column

-- of the faults of two fields side by side, the left one's first
unfoldable pub first_of : ℕ → ℕ → ℕ
first_of zero b = b
first_of (suc a) b = suc a

-- of any two faults, the lower column
unfoldable pub leftmost : ℕ → ℕ → ℕ
leftmost zero b = b
leftmost (suc a) zero = suc a
leftmost (suc a) (suc b) = min (suc a) (suc b)

-- a column that must be blank is a field of its own
unfoldable pub blank_at : List ℕ → ℕ → ℕ
blank_at l i = pick (eqb (get_or l i 0) (byte " ")) 0 (i + 1)

-- n columns that must be blank
unfoldable pub gap_of : List ℕ → ℕ → ℕ → ℕ
gap_of l at zero = 0
gap_of l at (suc n) = first_of (gap_of l at n) (blank_at l (at + n))

-- n columns are each 32 to 126
unfoldable pub clean_at : List ℕ → ℕ → ℕ → Bool
clean_at l at zero = true
clean_at l at (suc n) = both (clean_at l at n) (between (byte " ") (byte "~") (get_or l (at + n) 0))

-- ---- writing
unfoldable pub blanks : ℕ → List ℕ
blanks zero = []
blanks (suc n) = blanks n ++ (byte " " ∷ [])

-- the n columns from `at` of l are now x, as l' has it, and nothing else has changed
pub record Put (l : List ℕ) (at n : ℕ) (x : List ℕ) (l' : List ℕ) : Type 0 where
  pub front : take (at + n) l' ≡ take at l ++ x
  pub rest : drop (at + n) l' ≡ drop (at + n) l
