-- The loops: what holds at the start, after a turn, and at the end.
-- Assumes nothing.
use mathlib.Core.Path.{◌≡◌, refl, sym, ◌∙◌, ap}
use mathlib.Core.List.{List}
use mathlib.Core.Bool.{Bool, true, false, ◌&&◌}
use Prim.Native.Nat.{ℕ, zero, suc, ◌+◌, ◌≤◌, ◌<◌}
use native.Mathlib.Numerals.{add-one}
use native.Mathlib.Omega.{arith}
use lib.Dec.{eqb}
use lib.ListN.{get_or}
use borrow.Author.Tests.{eq-eqb, ne_eqb, eqb-true, eqb-false}
use Rattle.columns.proofs.Faults.{first_some}
use Rattle.ascii.proofs.Bools.{and_both}
use Rattle.ascii.specs.Tests.{between}
use Rattle.columns.specs.Columns.{first_of, blank_at, gap_of, clean_at}

pub gap_start : (l : List ℕ) (at : ℕ) → gap_of l at 0 ≡ 0
unfolding gap_of
gap_start l at = refl

pub gap_next : (l : List ℕ) (at i : ℕ) → gap_of l at i ≡ 0 → get_or l (at + i) 0 ≡ 32 → gap_of l at (i + 1) ≡ 0
unfolding gap_of first_of blank_at
gap_next l at i p q = rw add-one (simp (p, eq-eqb _ _ q))

first_more : (a b : ℕ) → a + 1 ≡ first_of (a + 1) b
first_more a b = first_some (a + 1) b (omega arith)

-- a column that is not blank is the fault, however many follow
pub gap_found : (l : List ℕ) (at n i : ℕ) → i < n → gap_of l at i ≡ 0 → (get_or l (at + i) 0 ≡ 32 → ⊥) → gap_of l at n ≡ at + i + 1
unfolding gap_of first_of blank_at
gap_found l at zero i h p q = absurd (omega arith)
gap_found l at (suc n) i h p q = go (λ h. gap_found l at n i h p q) (eqb i n) refl
  where
    go : (i < n → gap_of l at n ≡ at + i + 1) → (t : Bool) → eqb i n ≡ t → first_of (gap_of l at n) (blank_at l (at + n)) ≡ at + i + 1
    go ih true t = let e = eqb-true i n t in rw (← e) (rw p (simp (ne_eqb _ _ q)))
    go ih false t = let d = eqb-false i n t in rw (ih (omega arith)) (sym (first_more (at + i) (blank_at l (at + n))))

pub gap_end : (l : List ℕ) (at n i : ℕ) → i ≤ n → n ≤ i → gap_of l at i ≡ 0 → gap_of l at n ≡ 0
gap_end l at n i a b p = let q : i ≡ n = omega arith in rw (← q) p

pub clean_start : (l : List ℕ) (at : ℕ) → true ≡ clean_at l at 0
unfolding clean_at
clean_start l at = refl

pub clean_next : (l : List ℕ) (at i : ℕ) (a b : Bool) → a ≡ clean_at l at i → b ≡ between 32 126 (get_or l (at + i) 0) → (a && b) ≡ clean_at l at (i + 1)
unfolding clean_at
clean_next l at i a b p q = rw add-one (and_both a b ∙ rw (p, q))

pub clean_end : (l : List ℕ) (at n i : ℕ) (r : Bool) → i ≤ n → n ≤ i → r ≡ clean_at l at i → r ≡ clean_at l at n
clean_end l at n i r a b p = let q : i ≡ n = omega arith in p ∙ ap (clean_at l at) q
