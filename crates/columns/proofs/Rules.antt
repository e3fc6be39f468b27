-- A rule between fields blames a column: where it stands among the fields, read from left to right.
-- Assumes nothing.
use mathlib.Core.Path.{◌≡◌, refl, ◌∙◌, ap}
use mathlib.Core.Logic.{◌⊎◌, inl, inr}
use mathlib.Core.Bool.{Bool, true, false}
use Prim.Native.Nat.{ℕ, zero, suc, min, ◌+◌, ◌≤◌}
use native.Mathlib.Omega.{arith}
use mathlib.Core.List.{List}
use lib.Dec.{eqb}
use lib.ListN.{get_or}
use Rattle.columns.specs.Columns.{blame, blamed_of, first_of, leftmost, gap_of, blank_at}
use Rattle.columns.specs.Answers.{read_as, lower_of}

-- what is answered of a field and of a rule
pub lower_reads : {A : Type 0} (f r : ℕ) (v : A) → lower_of (read_as f v) (read_as r tt) ≡ read_as (leftmost f r) v
unfolding leftmost
lower_reads zero zero v = refl
lower_reads zero (suc r) v = refl
lower_reads (suc f) zero v = refl
lower_reads (suc f) (suc r) v = let e : min (suc f) (suc r) ≡ suc (min f r) = omega arith in rw e

-- the column of a rule is that of a field
pub rule_field : (t : Bool) (at : ℕ) → blamed_of t (at + 1) ≡ blame t at
unfolding blame blamed_of
rule_field t at = refl

-- a rule passes over what cannot be right of the column that it blames
pub rule_passes : (t : Bool) (c a r : ℕ) → a ≤ c → leftmost (first_of a r) (blamed_of t c) ≡ first_of a (leftmost r (blamed_of t c))
unfolding first_of leftmost blamed_of
rule_passes t c zero r h = refl
rule_passes true c (suc a) r h = refl
rule_passes false zero (suc a) r h = absurd (omega arith)
rule_passes false (suc c) (suc a) r h = omega arith

-- the same, with what it comes to on the right
pub rule_past : (t : Bool) (c a r q : ℕ) → a ≤ c → leftmost r (blamed_of t c) ≡ q → leftmost (first_of a r) (blamed_of t c) ≡ first_of a q
rule_past t c a r q h e = rule_passes t c a r h ∙ ap (first_of a) e

-- it is checked before what cannot be left of it
pub rule_first : (t : Bool) (c r : ℕ) → (r ≡ 0) ⊎ (c ≤ r) → leftmost r (blamed_of t c) ≡ first_of (blamed_of t c) r
unfolding first_of leftmost blamed_of
rule_first true c zero h = refl
rule_first true c (suc r) h = refl
rule_first false zero zero h = refl
rule_first false zero (suc r) h = refl
rule_first false (suc c) zero h = refl
rule_first false (suc c) (suc r) (inl z) = absurd (omega arith)
rule_first false (suc c) (suc r) (inr g) = omega arith

pub first_assoc : (a b c : ℕ) → first_of (first_of a b) c ≡ first_of a (first_of b c)
unfolding first_of
first_assoc zero b c = refl
first_assoc (suc a) b c = refl

-- a rule blames its own column
pub rule_most : (t : Bool) (c : ℕ) → blamed_of t c ≤ c
unfolding blamed_of
rule_most true c = omega arith
rule_most false c = omega arith

-- ---- where the faults of a run of fields are
pub blame_most : (t : Bool) (at : ℕ) → blame t at ≤ at + 1
unfolding blame
blame_most true at = omega arith
blame_most false at = omega arith

pub blame_least : (t : Bool) (at : ℕ) → (blame t at ≡ 0) ⊎ (at + 1 ≤ blame t at)
unfolding blame
blame_least true at = inl refl
blame_least false at = inr (omega arith)

pub first_most : (a b c : ℕ) → a ≤ c → b ≤ c → first_of a b ≤ c
unfolding first_of
first_most zero b c h g = g
first_most (suc a) b c h g = h

pub first_least : (a b c : ℕ) → (a ≡ 0) ⊎ (c ≤ a) → (b ≡ 0) ⊎ (c ≤ b) → (first_of a b ≡ 0) ⊎ (c ≤ first_of a b)
unfolding first_of
first_least zero b c h g = g
first_least (suc a) b c h g = h

pub least_from : (a c d : ℕ) → d ≤ c → (a ≡ 0) ⊎ (c ≤ a) → (a ≡ 0) ⊎ (d ≤ a)
least_from a c d h (inl z) = inl z
least_from a c d h (inr g) = inr (omega arith)

blank_most : (l : List ℕ) (i : ℕ) → blank_at l i ≤ i + 1
unfolding blank_at blame
blank_most l i = blame_most (eqb (get_or l i 0) 32) i

blank_least : (l : List ℕ) (i : ℕ) → (blank_at l i ≡ 0) ⊎ (i + 1 ≤ blank_at l i)
unfolding blank_at blame
blank_least l i = blame_least (eqb (get_or l i 0) 32) i

pub gap_most : (l : List ℕ) (at n : ℕ) → gap_of l at n ≤ at + n
unfolding gap_of
gap_most l at zero = omega arith
gap_most l at (suc n) = first_most (gap_of l at n) (blank_at l (at + n)) (at + suc n) (omega (arith, gap_most l at n)) (omega (arith, blank_most l (at + n)))

pub gap_least : (l : List ℕ) (at n : ℕ) → (gap_of l at n ≡ 0) ⊎ (at + 1 ≤ gap_of l at n)
unfolding gap_of
gap_least l at zero = inl refl
gap_least l at (suc n) =
    first_least (gap_of l at n) (blank_at l (at + n)) (at + 1) (gap_least l at n)
    (least_from (blank_at l (at + n)) (at + n + 1) (at + 1) (omega arith) (blank_least l (at + n)))
