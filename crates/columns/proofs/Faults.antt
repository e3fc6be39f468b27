-- Faults put together: none exactly if neither is one.
-- Assumes nothing.
use mathlib.Core.Path.{◌≡◌, refl}
use mathlib.Core.Bool.{Bool, true, false}
use Prim.Native.Nat.{ℕ, zero, suc, min, ◌+◌, ◌≤◌, ◌<◌}
use native.Mathlib.Omega.{arith}
use lib.Dec.{T, ltb, ltb→lt}
use Rattle.std.specs.Prelude.{Err}
use Rattle.columns.specs.Answers.{read_as}
use Rattle.columns.proofs.Readers.{read_wrong}
use Rattle.columns.specs.Columns.{blame, blamed_of, first_of, leftmost}

pub blame_none : (t : Bool) (at : ℕ) → blame t at ≡ 0 → t ≡ true
unfolding blame
blame_none true at e = refl
blame_none false at e = absurd (omega arith)

pub blame_good : (t : Bool) (at : ℕ) → t ≡ true → blame t at ≡ 0
unfolding blame
blame_good t at e = rw e

pub blame_bad : {A : Type 0} (t : Bool) (at : ℕ) (v : A) → t ≡ false → Err (record { 0 = at + 1 }) ≡ read_as (blame t at) v
unfolding blame
blame_bad t at v e = rw e (read_wrong (at + 1) v (omega arith))

pub blamed_none : (t : Bool) (c : ℕ) → T (ltb 0 c) → blamed_of t c ≡ 0 → t ≡ true
unfolding blamed_of
blamed_none true c p e = refl
blamed_none false c p e = absurd (omega (arith, ltb→lt 0 c p))

pub blamed_good : (t : Bool) (c : ℕ) → t ≡ true → blamed_of t c ≡ 0
unfolding blamed_of
blamed_good t c e = rw e

pub first_split : (a b : ℕ) → first_of a b ≡ 0 → (a ≡ 0) × (b ≡ 0)
unfolding first_of
first_split zero b e = (refl, e)
first_split (suc a) b e = absurd (omega arith)

pub first_join : (a b : ℕ) → a ≡ 0 → b ≡ 0 → first_of a b ≡ 0
unfolding first_of
first_join a b p q = rw (p, q)

pub first_some : (a b : ℕ) → (a ≡ 0 → ⊥) → a ≡ first_of a b
unfolding first_of
first_some zero b z = absurd (z refl)
first_some (suc a) b z = refl

pub left_split : (a b : ℕ) → leftmost a b ≡ 0 → (a ≡ 0) × (b ≡ 0)
unfolding leftmost
left_split zero b e = (refl, e)
left_split (suc a) zero e = absurd (omega arith)
left_split (suc a) (suc b) e = absurd (omega arith)

pub left_join : (a b : ℕ) → a ≡ 0 → b ≡ 0 → leftmost a b ≡ 0
unfolding leftmost
left_join a b p q = rw (p, q)

leftmost_some : (a b : ℕ) → (a ≡ 0 → ⊥) → (b ≡ 0 → ⊥) → leftmost a b ≡ min a b
unfolding leftmost
leftmost_some zero b p q = absurd (p refl)
leftmost_some (suc a) zero p q = absurd (q refl)
leftmost_some (suc a) (suc b) p q = refl

-- ---- one law for each `return` of `lower`
pub leftmost_zero : (a b : ℕ) → a ≡ 0 → b ≡ leftmost a b
unfolding leftmost
leftmost_zero a b p = rw p

pub leftmost_only : (a b : ℕ) → (a ≡ 0 → ⊥) → b ≡ 0 → a ≡ leftmost a b
unfolding leftmost
leftmost_only zero b p q = absurd (p refl)
leftmost_only (suc a) b p q = rw q

pub leftmost_first : (a b : ℕ) → (a ≡ 0 → ⊥) → (b ≡ 0 → ⊥) → a < b → a ≡ leftmost a b
leftmost_first a b p q h = rw (leftmost_some a b p q) (omega arith)

pub leftmost_second : (a b : ℕ) → (a ≡ 0 → ⊥) → (b ≡ 0 → ⊥) → b ≤ a → b ≡ leftmost a b
leftmost_second a b p q h = rw (leftmost_some a b p q) (omega arith)
