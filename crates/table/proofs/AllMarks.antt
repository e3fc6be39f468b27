-- Marking all fragments at once: no count and no join changes, marks agree inside each fragment, and each fragment has the mark told of it.
-- Assumes nothing.
use Prim.Native.Nat.{ℕ, suc, ◌+◌, ◌≤◌, ◌<◌}
use mathlib.Core.List.{List, [], ◌∷◌}
use mathlib.Core.Bool.{Bool, true, false, not, false≢true}
use mathlib.Core.Path.{◌≡◌, refl, sym, ◌∙◌, ap, ap₂}
use native.Mathlib.Omega.{arith}
use native.Mathlib.Numerals.{add-one}
use borrow.Author.Tests.{eq-eqb, eqb-true, eqb-false}
use lib.Dec.{eqb}
use lib.ListN.{length, drop, get_or}
use lib.Seq.{drop-cons}
use Rattle.ascii.specs.Tests.{pick, either}
use Rattle.ascii.proofs.Choice.{both_split, both_join}
use Rattle.slots.specs.declared.Slot.{Slot}
use Rattle.fragments.specs.declared.Tail.{Tail}
use Rattle.slots.specs.Slots.{no_slot, with_mark}
use Rattle.fragments.specs.Fragments.{joins, step_tail, tail_of, mark_of, marked, marked_by}
use Rattle.table.proofs.Marks.{joins_some, fewer}
use Rattle.table.proofs.Aside.{first_mark, count_within, count_least}

-- as many slots as before
pub marked_by_size : (m : ℕ → ℕ) (ss : List Slot) → length (marked_by m ss) ≡ length ss
unfolding marked_by
marked_by_size m [] = refl
marked_by_size m (s ∷ ss) = ap suc (marked_by_size m ss)

-- a slot more, for a loop from the last slot down
pub marked_by_step : (m : ℕ → ℕ) (ss : List Slot) (k j : ℕ) → k ≡ j + 1 → j < length ss → (u : Tail) → u ≡ tail_of (drop j ss)
    → marked_by m (drop j ss) ≡ with_mark (get_or ss j no_slot) (m u.count) ∷ marked_by m (drop k ss)
unfolding marked_by
marked_by_step m ss k j e h u q = rw (q, e, add-one j, drop-cons ss j no_slot h)

-- what marking every fragment changes in the account of a stretch of slots: marks only, and they agree
pub record AfterAll (m : ℕ → ℕ) (before after : Tail) : Type 0 where
  pub some : after.some ≡ before.some
  pub closed : after.closed ≡ before.closed
  pub model : after.model ≡ before.model
  pub residue : after.residue ≡ before.residue
  pub count : after.count ≡ before.count
  pub agree : after.agree ≡ true
  pub mark : before.some ≡ true → after.mark ≡ m before.count

module _ (m : ℕ → ℕ) (s : Slot) (before after : Tail) (A : AfterAll m before after) where
  -- whatever its mark is, the slot goes with the next as before
  same_joins : (x : ℕ) → joins (with_mark s x) after ≡ joins s before
  unfolding joins with_mark
  same_joins x = rw (A.some, A.closed, A.model, A.residue)

  -- a slot that goes with the next has its count, and so its mark
  agreed : (j : Bool) → joins s before ≡ j → either (not j) (eqb (m (pick j before.count (before.count + 1))) after.mark) ≡ true
  unfolding either
  agreed false e = refl
  agreed true e = eq-eqb _ _ (sym (A.mark (joins_some s before e)))

  -- a slot more
  after_all_step : AfterAll m (step_tail s before) (step_tail (with_mark s (m (step_tail s before).count)) after)
  unfolding step_tail with_mark
  after_all_step =
      record {
        some = refl;
        closed = rw (A.closed, A.model);
        model = refl;
        residue = refl;
        count = rw (same_joins _, A.count);
        agree = both_join after.agree _ A.agree (rw (same_joins _) (agreed (joins s before) refl));
        mark = λ h. refl;
      }

-- the account of slots that were all marked
pub after_all : (m : ℕ → ℕ) (ss : List Slot) → AfterAll m (tail_of ss) (tail_of (marked_by m ss))
unfolding tail_of marked_by
after_all m [] = record { some = refl; closed = refl; model = refl; residue = refl; count = refl; agree = refl; mark = λ h. absurd (false≢true h) }
after_all m (s ∷ ss) = after_all_step m s (tail_of ss) (tail_of (marked_by m ss)) (after_all m ss)

-- ---- only the marks told of fragments that there are count
-- two ways to mark that say the same of each of them
pub marked_by_same : (m k : ℕ → ℕ) (ss : List Slot) → ((c : ℕ) → 1 ≤ c → c ≤ (tail_of ss).count → m c ≡ k c) → marked_by m ss ≡ marked_by k ss
unfolding marked_by
marked_by_same m k [] h = refl
marked_by_same m k (s ∷ ss) h =
    ap₂ ◌∷◌ (ap (with_mark s) (h (tail_of (s ∷ ss)).count (count_least (s ∷ ss) 0 (omega arith)) (omega arith)))
    (marked_by_same m k ss (λ c l u. h c l (omega (arith, count_within (s ∷ ss) 1))))

-- ---- marked twice
-- the later marks stand
pub marked_by_twice : (m k : ℕ → ℕ) (ss : List Slot) → marked_by m (marked_by k ss) ≡ marked_by m ss
unfolding marked_by with_mark
marked_by_twice m k [] = refl
marked_by_twice m k (s ∷ ss) =
    ap₂ ◌∷◌ (ap (λ (c : ℕ). with_mark s (m c)) (after_all k (s ∷ ss)).count) (marked_by_twice m k ss)

-- one fragment marked after all
marked_after : (b v : ℕ) (m : ℕ → ℕ) (ss : List Slot) → marked b v (marked_by m ss) ≡ marked_by (λ c. pick (eqb c b) v (m c)) ss
unfolding marked_by marked with_mark
marked_after b v m [] = refl
marked_after b v m (s ∷ ss) =
    ap₂ ◌∷◌ (rw (after_all m (s ∷ ss)).count (go (eqb (tail_of (s ∷ ss)).count b) (m (tail_of (s ∷ ss)).count))) (marked_after b v m ss)
  where
    go : (x : Bool) (w : ℕ) → pick x (with_mark (with_mark s w) v) (with_mark s w) ≡ with_mark s (pick x v w)
    go true w = refl
    go false w = refl

-- ---- slots whose marks agree are marked as their fragments are
pub marked_by_own : (ss : List Slot) → (tail_of ss).agree ≡ true → marked_by (λ c. mark_of c ss) ss ≡ ss
unfolding marked_by mark_of tail_of step_tail either with_mark
marked_by_own [] a = refl
marked_by_own (s ∷ ss) a =
    let w = both_split (tail_of ss).agree (either (not (joins s (tail_of ss))) (eqb s.mark (tail_of ss).mark)) a in
    ap₂ ◌∷◌ (ap (with_mark s) (first_mark (s ∷ ss) refl) ∙ own s)
    (marked_by_same (λ c. mark_of c (s ∷ ss)) (λ c. mark_of c ss) ss
    (λ c l u. go c u (joins s (tail_of ss)) refl w.1 (eqb (step_tail s (tail_of ss)).count c) refl)
    ∙ marked_by_own ss w.0)
  where
    own : (s : Slot) → with_mark s s.mark ≡ s
    own s = refl

    -- a slot before a fragment is not of it, or it goes with the first of it
    go : (c : ℕ) → c ≤ (tail_of ss).count → (b : Bool) → joins s (tail_of ss) ≡ b → either (not b) (eqb s.mark (tail_of ss).mark) ≡ true
        → (x : Bool) → eqb (pick b (tail_of ss).count ((tail_of ss).count + 1)) c ≡ x → pick x s.mark (mark_of c ss) ≡ mark_of c ss
    go c u b j e false v = refl
    go c u false j e true v = let z : (tail_of ss).count + 1 ≡ c = eqb-true _ _ v in absurd (omega arith)
    go c u true j e true v =
        let z : (tail_of ss).count ≡ c = eqb-true _ _ v in
        eqb-true _ _ e ∙ rw (← z) (sym (first_mark ss (joins_some s (tail_of ss) j)))

-- marking one fragment is marking each: that one anew, the others as they are
pub marked_one : (b v : ℕ) (ss : List Slot) → (tail_of ss).agree ≡ true → marked b v ss ≡ marked_by (λ c. pick (eqb c b) v (mark_of c ss)) ss
marked_one b v ss a = ap (marked b v) (sym (marked_by_own ss a)) ∙ marked_after b v (λ c. mark_of c ss) ss

-- ---- a fragment that there is has the mark told of it
pub mark_told : (m : ℕ → ℕ) (ss : List Slot) (b : ℕ) → 1 ≤ b → b ≤ (tail_of ss).count → mark_of b (marked_by m ss) ≡ m b
unfolding mark_of marked_by tail_of step_tail with_mark
mark_told m [] b l h = absurd (omega arith)
mark_told m (s ∷ ss) b l h =
    rw (after_all m (s ∷ ss)).count (go (eqb (step_tail s (tail_of ss)).count b) refl (λ g. mark_told m ss b l g))
  where
    go : (x : Bool) → eqb (step_tail s (tail_of ss)).count b ≡ x → (b ≤ (tail_of ss).count → mark_of b (marked_by m ss) ≡ m b)
        → pick x (m (step_tail s (tail_of ss)).count) (mark_of b (marked_by m ss)) ≡ m b
    go true p r = ap m (eqb-true _ _ p)
    go false p r = r (fewer s ss b h (eqb-false _ _ p))
