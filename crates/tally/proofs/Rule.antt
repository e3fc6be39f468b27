-- The rule's sentences, of the definitions: what is refused leaves the tally, what is not counted leaves it, and lines that are granted are counted by their names.
-- Assumes nothing.
use mathlib.Core.Path.{◌≡◌, refl, ap, ◌∙◌}
use mathlib.Core.List.{List, [], ◌∷◌}
use mathlib.Core.Bool.{Bool, true, false}
use Prim.Native.Nat.{ℕ, zero, suc, ◌+◌, ◌≤◌, ◌<◌}
use native.Mathlib.Omega.{arith}
use lib.Dec.{T, eqb, ltb}
use lib.ListN.{length}
use Rattle.ascii.specs.Tests.{pick, both}
use Rattle.ascii.proofs.Choice.{picks}
use Rattle.kinds.specs.declared.Kind.{Kind}
use Rattle.kinds.specs.Kinds.{row_of, is_named, kind_of}
use Rattle.kinds.proofs.First.{each}
use Rattle.kinds.proofs.Returns.{no_name}
use Rattle.master.specs.declared.Tally.{Tally}
use Rattle.places.specs.Counts.{count_of, count_at, one_more}
use Rattle.tally.specs.Tally.{Counted, most, count_in, raised_tally, told_tally, tally_step, tally_line, tally_all, Granted, lines_of}
use Rattle.tally.specs.Promise.{Promises}

-- a line under six bytes gets 4
pub short_line : (past : Bool) (t : Tally) (l : List ℕ) → length l < 6 → tally_line past t l ≡ told_tally 4 t
unfolding tally_line
short_line past t l h = rw (← no_name l h)

-- a refusal leaves the tally as found
abbrev Kept : Tally → Counted → Type 0
Kept t c = (c.number ≡ 0 → ⊥) → c.tally ≡ t

step_kept : (t : Tally) (which : ℕ) → Kept t (tally_step t which)
unfolding tally_step
step_kept t which = picks (Kept t) (ltb (count_in t which) most) (told_tally 0 (raised_tally t which)) (told_tally 14 t) (λ _ z. absurd (z refl)) (λ _ _. refl)

pub refused_kept : (past : Bool) (t : Tally) (l : List ℕ) → Kept t (tally_line past t l)
unfolding tally_line
refused_kept past t l = picks (Kept t) (is_named (kind_of l)) (tally_step t (count_at past (kind_of l))) (told_tally 4 t) (λ _. step_kept t (count_at past (kind_of l))) (λ _ _. refl)

-- a known name that has no count changes nothing, and never gets 14
no_count : (past : Bool) (t : Tally) (l : List ℕ) → is_named (kind_of l) ≡ true → count_at past (kind_of l) ≡ 0 → tally_line past t l ≡ told_tally 0 t
unfolding tally_line tally_step count_in raised_tally
no_count past t l h e = rw (h, e)

pub uncounted : (past : Bool) (t : Tally) (l : List ℕ) → is_named (kind_of l) ≡ true → count_of (kind_of l) ≡ 0 → tally_line past t l ≡ told_tally 0 t
uncounted past t l h e = no_count past t l h (go (both past (row_of (kind_of l)).slot))
  where
    go : (b : Bool) → pick b 0 (row_of (kind_of l)).count ≡ 0
    go true = refl
    go false = e

-- a kind that has a slot has a name
slot_named : (k : Kind) → (row_of k).slot ≡ true → is_named k ≡ true
slot_named k e = go (is_named k) (rw e at (each (λ (r : Kind). pick (row_of r).slot (is_named r) true) tt k))
  where
    go : (b : Bool) → T b → b ≡ true
    go true h = refl
    go false h = absurd h

-- once the first ENDMDL has gone by ATOM, HETATM and TER change nothing, and any other line is counted as before
pub slotted : (t : Tally) (l : List ℕ) → (row_of (kind_of l)).slot ≡ true → tally_line true t l ≡ told_tally 0 t
unfolding both
slotted t l e = no_count true t l (slot_named (kind_of l) e) (rw e)

pub others : (t : Tally) (l : List ℕ) → (row_of (kind_of l)).slot ≡ false → tally_line true t l ≡ tally_line false t l
unfolding tally_line both
others t l e = rw e

-- ---- lines that are all granted
raised_in : (t : Tally) (which n : ℕ) → 0 < n → n ≤ 9 → count_in (raised_tally t which) n ≡ one_more which n (count_in t n)
unfolding count_in raised_tally
raised_in t which zero h k = absurd (omega arith)
raised_in t which (suc zero) h k = refl
raised_in t which (suc (suc zero)) h k = refl
raised_in t which (suc (suc (suc zero))) h k = refl
raised_in t which (suc (suc (suc (suc zero)))) h k = refl
raised_in t which (suc (suc (suc (suc (suc zero))))) h k = refl
raised_in t which (suc (suc (suc (suc (suc (suc zero)))))) h k = refl
raised_in t which (suc (suc (suc (suc (suc (suc (suc zero))))))) h k = refl
raised_in t which (suc (suc (suc (suc (suc (suc (suc (suc zero)))))))) h k = refl
raised_in t which (suc (suc (suc (suc (suc (suc (suc (suc (suc zero))))))))) h k = refl
raised_in t which (suc (suc (suc (suc (suc (suc (suc (suc (suc (suc n)))))))))) h k = absurd (omega arith)

step_in : (t : Tally) (which n : ℕ) → 0 < n → n ≤ 9 → (tally_step t which).number ≡ 0 → count_in (tally_step t which).tally n ≡ one_more which n (count_in t n)
unfolding tally_step
step_in t which n h k = picks (λ (c : Counted). c.number ≡ 0 → count_in c.tally n ≡ one_more which n (count_in t n)) (ltb (count_in t which) most) (told_tally 0 (raised_tally t which)) (told_tally 14 t) (λ _ _. raised_in t which n h k) (λ _ e. absurd (omega arith))

line_in_lem : (past : Bool) (t : Tally) (l : List ℕ) (n : ℕ) → 0 < n → n ≤ 9 → (tally_line past t l).number ≡ 0 → count_in (tally_line past t l).tally n ≡ one_more (count_at past (kind_of l)) n (count_in t n)
unfolding tally_line
line_in_lem past t l n h k = picks (λ (c : Counted). c.number ≡ 0 → count_in c.tally n ≡ one_more (count_at past (kind_of l)) n (count_in t n)) (is_named (kind_of l)) (tally_step t (count_at past (kind_of l))) (told_tally 4 t) (λ _. step_in t (count_at past (kind_of l)) n h k) (λ _ e. absurd (omega arith))

one_more_add : (which n a b : ℕ) → one_more which n a + b ≡ a + one_more which n b
one_more_add which n a b = go (eqb which n)
  where
    go : (x : Bool) → pick x (a + 1) a + b ≡ a + pick x (b + 1) b
    go true = omega arith
    go false = refl

-- each count has grown by the lines of its names
pub all_counted : (past : Bool) (t : Tally) (ls : List (List ℕ)) (n : ℕ) → 0 < n → n ≤ 9 → Granted past t ls → count_in (tally_all past t ls) n ≡ count_in t n + lines_of past n ls
all_counted past t [] n h k g = omega arith
all_counted past t (l ∷ ls) n h k g =
    all_counted past (tally_line past t l).tally ls n h k g.1
    ∙ ap (λ (c : ℕ). c + lines_of past n ls) (line_in_lem past t l n h k g.0)
    ∙ one_more_add (count_at past (kind_of l)) n (count_in t n) (lines_of past n ls)

pub promises : Promises
promises =
    record {
      short = short_line;
      kept = refused_kept;
      uncounted = uncounted;
      slotted = slotted;
      others = others;
      counted = all_counted;
    }
