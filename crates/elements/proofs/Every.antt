-- A test that antt computes at every number below a bound, and what it shows of each.
-- Assumes nothing.
use mathlib.Core.Path.{◌≡◌, refl, ◌∙◌, ap}
use mathlib.Core.Bool.{Bool, true, false}
use Prim.Native.Nat.{ℕ, zero, suc, ◌<◌}
use native.Mathlib.Omega.{arith}
use lib.Dec.{eqb}
use borrow.Author.Tests.{eqb-true, eqb-false}
use Rattle.ascii.specs.Tests.{pick, both}
use Rattle.ascii.proofs.Choice.{both_split}

-- f holds at each number below n
abbrev pub passes : (ℕ → Bool) → ℕ → Bool
passes f zero = true
passes f (suc n) = pick (f n) (passes f n) false

pub passed : (f : ℕ → Bool) (n : ℕ) → passes f n ≡ true → (k : ℕ) → k < n → f k ≡ true
unfolding both
passed f zero t k h = absurd (omega arith)
passed f (suc n) t k h = go (passed f n (both_split (f n) (passes f n) t).1 k) (eqb k n) refl
  where
    go : (k < n → f k ≡ true) → (b : Bool) → eqb k n ≡ b → f k ≡ true
    go before true e = ap f (eqb-true k n e) ∙ (both_split (f n) (passes f n) t).0
    go before false e = before (let d : k ≡ n → ⊥ = eqb-false k n e in omega arith)
