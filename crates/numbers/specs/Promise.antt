-- The one law of numbers in columns, over every width and every number of decimals: the statement. It is proved in proofs/.
use Rattle.std.specs.Prelude.{◌+◌, ◌≤◌, ◌≡◌}
use Rattle.ascii.specs.Library.{ℕ, List, Bool, true, length}
use Rattle.columns.specs.Columns.{cols}
use Rattle.numbers.specs.Number.{number_of, render, room}

-- n columns from `at`, e as in `number_of`
pub record NumberLaw : Type 0 where
  -- columns that hold a number are what this number is written as, and it has room there
  pub text : (l : List ℕ) (at n e : ℕ) → at + n ≤ length l → (number_of l at n e).good ≡ true
      → (render n e (number_of l at n e).minus (number_of l at n e).mag ≡ cols l at n)
      × (room n e (number_of l at n e).minus (number_of l at n e).mag ≡ true)
  -- a number that has room reads back from the columns that it is written as
  pub back : (l : List ℕ) (at n e : ℕ) (minus : Bool) (v : ℕ) → room n e minus v ≡ true → cols l at n ≡ render n e minus v
      → number_of l at n e ≡ record { good = true; minus = minus; mag = v }
