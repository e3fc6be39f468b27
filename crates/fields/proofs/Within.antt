-- The fault of a lawful format lies within its columns.
-- Assumes nothing.
use mathlib.Core.Path.{◌≡◌}
use mathlib.Core.Logic.{◌⊎◌, inl, inr}
use mathlib.Core.List.{List, [], ◌∷◌}
use mathlib.Core.Bool.{Bool, true, false}
use Prim.Native.Nat.{ℕ, ◌+◌, ◌≤◌, ◌<◌}
use native.Mathlib.Omega.{arith}
use lib.ListN.{length}
use Rattle.ascii.specs.Tests.{pick}
use Rattle.fields.specs.Format.{Field, Format, leftmost_wrong, SideBySide}
use Rattle.fields.proofs.Sides.{wrong_low}
use Rattle.fields.proofs.Formats.{Lawful}

side_long : (c e : ℕ) (xs : List Field) → SideBySide c xs e → c ≤ e
unfolding SideBySide
side_long c e [] s = omega (arith, s)
side_long c e (f ∷ xs) s = omega (arith, side_long (c + f.width) e xs s.1)

wrong_high : (c e : ℕ) (xs : List Field) → SideBySide c xs e → leftmost_wrong xs ≤ e
unfolding leftmost_wrong SideBySide
wrong_high c e [] s = omega arith
wrong_high c e (f ∷ xs) s = go (wrong_high (c + f.width) e xs s.1) f.right
  where
    go : leftmost_wrong xs ≤ e → (b : Bool) → pick b (leftmost_wrong xs) f.column ≤ e
    go h true = h
    go h false = omega (arith, s.0, side_long (c + f.width) e xs s.1)

-- it is not right of them: at the most in the next column, where a field of no columns may stand
pub fault_most : {A : Type 0} {F : Format A} {begin : ℕ} → Lawful F begin → (l : List ℕ) → begin + F.width ≤ length l → F.fault l begin ≤ begin + F.width + 1
fault_most {F} {begin} f l h = omega (arith, f.named l h, wrong_high (begin + 1) (begin + 1 + F.width) (F.fields l begin) (f.filled l))

-- it is not left of them
pub fault_least : {A : Type 0} {F : Format A} {begin : ℕ} → Lawful F begin → (l : List ℕ) → begin + F.width ≤ length l → (F.fault l begin ≡ 0) ⊎ (begin + 1 ≤ F.fault l begin)
fault_least {F} {begin} f l h = go (wrong_low (begin + 1) (begin + 1 + F.width) (F.fields l begin) (f.filled l))
  where
    go : (leftmost_wrong (F.fields l begin) ≡ 0) ⊎ (begin + 1 ≤ leftmost_wrong (F.fields l begin)) → (F.fault l begin ≡ 0) ⊎ (begin + 1 ≤ F.fault l begin)
    go (inl z) = inl (omega (arith, f.named l h))
    go (inr g) = inr (omega (arith, f.named l h))

pub fault_within : {A : Type 0} {F : Format A} {begin : ℕ} → Lawful F begin → (l : List ℕ) → begin + F.width ≤ length l
    → (F.fault l begin ≡ 0) ⊎ ((begin < F.fault l begin) × (F.fault l begin ≤ begin + F.width + 1))
fault_within {F} {begin} f l h = go (fault_least f l h)
  where
    go : (F.fault l begin ≡ 0) ⊎ (begin + 1 ≤ F.fault l begin) → (F.fault l begin ≡ 0) ⊎ ((begin < F.fault l begin) × (F.fault l begin ≤ begin + F.width + 1))
    go (inl z) = inl z
    go (inr g) = inr (omega arith, fault_most f l h)
