-- Marking a fragment: no count and no join changes, marks still agree inside each fragment; it has the mark asked for, and no other's changes.
-- Assumes nothing.
use Prim.Native.Nat.{ℕ, suc, ◌+◌, ◌≤◌}
use mathlib.Core.List.{List, [], ◌∷◌}
use mathlib.Core.Bool.{Bool, true, false, not, false≢true}
use mathlib.Core.Path.{◌≡◌, refl, sym, ◌∙◌, ap}
use native.Mathlib.Omega.{arith}
use borrow.Author.Tests.{eq-eqb, eqb-true, eqb-false}
use lib.Dec.{eqb}
use lib.ListN.{length}
use Rattle.ascii.specs.Tests.{pick, both, either}
use Rattle.ascii.proofs.Choice.{both_split, both_join}
use Rattle.slots.specs.declared.Slot.{Slot}
use Rattle.fragments.specs.declared.Tail.{Tail}
use Rattle.slots.specs.Slots.{with_mark}
use Rattle.fragments.specs.Fragments.{is_ter, seam, joins, step_tail, tail_of, mark_of, marked}

pub marked_size : (b m : ℕ) (ss : List Slot) → length (marked b m ss) ≡ length ss
unfolding marked
marked_size b m [] = refl
marked_size b m (s ∷ ss) = ap suc (marked_size b m ss)

-- what marking fragment b changes in the account of a stretch of slots: marks only, and they still agree
pub record After (b m : ℕ) (before after : Tail) : Type 0 where
  pub some : after.some ≡ before.some
  pub closed : after.closed ≡ before.closed
  pub model : after.model ≡ before.model
  pub residue : after.residue ≡ before.residue
  pub count : after.count ≡ before.count
  pub agree : before.agree ≡ true → after.agree ≡ true
  pub mark : before.some ≡ true → after.mark ≡ pick (eqb before.count b) m before.mark

-- a slot that goes with the next has one after it
pub joins_some : (s : Slot) (t : Tail) → joins s t ≡ true → t.some ≡ true
unfolding joins
joins_some s t e = (both_split t.some (both (seam s t) (not (is_ter s))) (both_split (both t.some (both (seam s t) (not (is_ter s)))) _ e).0).0

module _ (b m : ℕ) (s : Slot) (before after : Tail) (A : After b m before after) where
  same_joins : joins s after ≡ joins s before
  unfolding joins
  same_joins = rw (A.some, A.closed, A.model, A.residue)

  marked_joins : joins (with_mark s m) after ≡ joins s before
  unfolding joins with_mark
  marked_joins = rw (A.some, A.closed, A.model, A.residue)

  -- the new marks agree: both are the mark asked for, or both are as they were
  agreed : (x : Bool) → x ≡ eqb (pick (joins s before) before.count (before.count + 1)) b
      → both before.agree (either (not (joins s before)) (eqb s.mark before.mark)) ≡ true
      → both after.agree (either (not (joins s before)) (eqb (pick x m s.mark) after.mark)) ≡ true
  unfolding either
  agreed x e h =
      let w = both_split before.agree _ h in
      both_join after.agree _ (A.agree w.0) (go (joins s before) refl e w.1)
    where
      equal : (x : Bool) → eqb s.mark before.mark ≡ true → eqb (pick x m s.mark) (pick x m before.mark) ≡ true
      equal true h = eq-eqb m m refl
      equal false h = h

      go : (j : Bool) → joins s before ≡ j → x ≡ eqb (pick j before.count (before.count + 1)) b
          → either (not j) (eqb s.mark before.mark) ≡ true → either (not j) (eqb (pick x m s.mark) after.mark) ≡ true
      go false q e h = refl
      go true q e h = rw (A.mark (joins_some s before q), ← e) (equal x h)

  after_step : (x : Bool) → x ≡ eqb (step_tail s before).count b → After b m (step_tail s before) (step_tail (pick x (with_mark s m) s) after)
  unfolding step_tail with_mark
  after_step true e =
      record {
        some = refl;
        closed = rw (A.closed, A.model);
        model = refl;
        residue = refl;
        count = rw (marked_joins, A.count);
        agree = λ h. rw marked_joins (agreed true e h);
        mark = λ h. rw (← e);
      }
  after_step false e =
      record {
        some = refl;
        closed = rw (A.closed, A.model);
        model = refl;
        residue = refl;
        count = rw (same_joins, A.count);
        agree = λ h. rw same_joins (agreed false e h);
        mark = λ h. rw (← e);
      }

pub after : (b m : ℕ) (ss : List Slot) → After b m (tail_of ss) (tail_of (marked b m ss))
unfolding tail_of marked
after b m [] = record { some = refl; closed = refl; model = refl; residue = refl; count = refl; agree = λ h. h; mark = λ h. absurd (false≢true h) }
after b m (s ∷ ss) = after_step b m s (tail_of ss) (tail_of (marked b m ss)) (after b m ss) (eqb (step_tail s (tail_of ss)).count b) refl

-- no other fragment's mark changes
pub marked_other : (b m : ℕ) (ss : List Slot) (c : ℕ) → (c ≡ b → ⊥) → mark_of c (marked b m ss) ≡ mark_of c ss
unfolding mark_of marked tail_of
marked_other b m [] c h = refl
marked_other b m (s ∷ ss) c h =
    rw ((after b m (s ∷ ss)).count, marked_other b m ss c h)
    (go (eqb (step_tail s (tail_of ss)).count b) refl (eqb (step_tail s (tail_of ss)).count c) refl)
  where
    go : (x : Bool) → eqb (step_tail s (tail_of ss)).count b ≡ x → (y : Bool) → eqb (step_tail s (tail_of ss)).count c ≡ y
        → pick y (pick x (with_mark s m) s).mark (mark_of c ss) ≡ pick y s.mark (mark_of c ss)
    go x p false q = refl
    go false p true q = refl
    go true p true q = absurd (h (sym (eqb-true _ _ q) ∙ eqb-true _ _ p))

-- a fragment that is not that of the first slot is among the slots after it
pub fewer : (s : Slot) (ss : List Slot) (b : ℕ) → b ≤ (tail_of (s ∷ ss)).count → ((tail_of (s ∷ ss)).count ≡ b → ⊥) → b ≤ (tail_of ss).count
unfolding tail_of step_tail
fewer s ss b = go (joins s (tail_of ss))
  where
    go : (j : Bool) → b ≤ pick j (tail_of ss).count ((tail_of ss).count + 1) → (pick j (tail_of ss).count ((tail_of ss).count + 1) ≡ b → ⊥) → b ≤ (tail_of ss).count
    go true h n = h
    go false h n = omega arith

-- a fragment that there is has the mark asked for
pub marked_own : (b m : ℕ) (ss : List Slot) → 1 ≤ b → b ≤ (tail_of ss).count → mark_of b (marked b m ss) ≡ m
unfolding mark_of marked tail_of step_tail with_mark
marked_own b m [] l h = absurd (omega arith)
marked_own b m (s ∷ ss) l h = rw (after b m (s ∷ ss)).count (go (eqb (step_tail s (tail_of ss)).count b) refl (λ g. marked_own b m ss l g))
  where
    go : (x : Bool) → eqb (step_tail s (tail_of ss)).count b ≡ x → (b ≤ (tail_of ss).count → mark_of b (marked b m ss) ≡ m)
        → pick x (pick x (with_mark s m) s).mark (mark_of b (marked b m ss)) ≡ m
    go true p r = refl
    go false p r = r (fewer s ss b h (eqb-false _ _ p))
