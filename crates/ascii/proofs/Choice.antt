-- What a choice by a test has, and what tests say together.
-- Assumes nothing.
use mathlib.Core.Path.{◌≡◌, refl, sym}
use mathlib.Core.Bool.{Bool, true, false, not}
use Prim.Native.Nat.{ℕ, ◌≤◌}
use native.Mathlib.Omega.{arith}
use lib.Dec.{ltb, leb}
use borrow.Author.Tests.{ltb-false, leb-true, eqb-true}
use Rattle.ascii.specs.Tests.{pick, both, either, same, between}

pub never : {A : Type 0} → false ≡ true → A
never e = let z : ◌≡◌ {A = ℕ} 0 1 = cc in absurd (omega arith)

-- a choice has what each side has where it is taken
pub picks {ℓ} : {A : Type 0} (P : A → Type ℓ) (t : Bool) (x y : A) → (t ≡ true → P x) → (t ≡ false → P y) → P (pick t x y)
picks P true x y f g = f refl
picks P false x y f g = g refl

pub both_split : (a b : Bool) → both a b ≡ true → (a ≡ true) × (b ≡ true)
unfolding both
both_split true b e = (refl, e)
both_split false b e = never e

pub both_join : (a b : Bool) → a ≡ true → b ≡ true → both a b ≡ true
unfolding both
both_join a b p q = rw (p, q)

pub both_no : (a : Bool) → both a false ≡ false
unfolding both
both_no true = refl
both_no false = refl

pub not_false : (a : Bool) → not a ≡ false → a ≡ true
not_false true e = refl
not_false false e = sym e

-- one of two tests holds, or neither does
pub either_left : (a b : Bool) → a ≡ true → either a b ≡ true
unfolding either
either_left a b p = rw (p)

pub either_right : (a b : Bool) → b ≡ true → either a b ≡ true
unfolding either
either_right true b p = refl
either_right false b p = p

pub either_none : (a b : Bool) → either a b ≡ false → (a ≡ false) × (b ≡ false)
unfolding either
either_none true b e = never (sym e)
either_none false b e = (refl, e)

-- one of two tests holds: what follows from each follows
pub either_split : {P : Type 0} (a b : Bool) → (a ≡ true → P) → (b ≡ true → P) → either a b ≡ true → P
unfolding either
either_split true b f g e = f refl
either_split false b f g e = g e

pub same_is : (a b : ℕ) → same a b ≡ true → a ≡ b
unfolding same
same_is a b e = eqb-true a b e

pub between_low : (lo hi b : ℕ) → between lo hi b ≡ true → lo ≤ b
unfolding between
between_low lo hi b = picks (λ (r : Bool). r ≡ true → lo ≤ b) (ltb b lo) false (leb b hi) (λ _ x. never x) (λ g _. ltb-false b lo g)

pub between_high : (lo hi b : ℕ) → between lo hi b ≡ true → b ≤ hi
unfolding between
between_high lo hi b = picks (λ (r : Bool). r ≡ true → b ≤ hi) (ltb b lo) false (leb b hi) (λ _ x. never x) (λ _ x. leb-true b hi x)
