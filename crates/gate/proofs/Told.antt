-- A column that is there where it is not 0. Assumes nothing.
use mathlib.Core.Path.{◌≡◌, refl}
use Prim.Native.Nat.{ℕ, zero, suc}
use Rattle.std.specs.Prelude.{Option}
use Rattle.gate.specs.Gate.{column_in, column_there}

pub column_kept : (n : ℕ) → column_in (column_there n) ≡ n
column_kept zero = refl
column_kept (suc n) = refl

-- what is said of a column by its number
pub column_number : (n : ℕ) (c : Option ℕ) → c ≡ column_there n → column_in c ≡ n
column_number n c e = rw e (column_kept n)

pub column_told : (n : ℕ) (c : Option ℕ) → c ≡ column_there n → c ≡ column_there (column_in c)
column_told n c e = rw (e, column_kept n) refl
