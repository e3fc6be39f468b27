-- A coordinate line goes exactly if the last order granted for its fragment set it aside.
-- Assumes nothing.
use Prim.Native.Nat.{ℕ, zero, suc, ◌+◌, ◌-◌, ◌≤◌, ◌<◌}
use mathlib.Core.List.{List, [], ◌∷◌}
use mathlib.Core.Bool.{Bool, true, false, not, false≢true}
use mathlib.Core.Path.{◌≡◌, refl, sym, ◌∙◌, ap}
use native.Mathlib.Omega.{arith}
use borrow.Author.Tests.{eq-eqb, eqb-true}
use lib.Dec.{eqb}
use lib.ListN.{length, take, drop, get_or, length-take}
use lib.Seq.{get_or-take}
use Rattle.ascii.specs.Tests.{pick, either}
use Rattle.ascii.proofs.Choice.{both_split}
use Rattle.pieces.specs.declared.Line.{Line}
use Rattle.pieces.specs.declared.Line.TheVariants.{Bad}
use Rattle.rows.specs.Text.{row}
use Rattle.facets.specs.Facets.{is_coord}
use Rattle.gate.specs.Gate.{check_of}
use Rattle.slots.specs.declared.Slot.{Slot}
use Rattle.slots.specs.Slots.{mark_aside, no_model, no_slot}
use Rattle.fragments.specs.Fragments.{joins, step_tail, tail_of, mark_of}
use Rattle.table.specs.Table.{lines_from, slots_of, loaded_of, over, mine, fragments, mark_byte}
use Rattle.table.specs.Orders.{Order, orders_of, last_of}
use Rattle.table.specs.Promise.{stays_from, slots_to, fragment_of}
use Rattle.table.proofs.Ready.{Ready}
use Rattle.table.proofs.Marks.{joins_some}
use Rattle.table.proofs.Orders.{count_lasts, orders_ready, orders_last, orders_count, orders_mark}
use Rattle.table.proofs.Fresh.{fresh_ready, fresh_in}
use Rattle.table.proofs.Rows.{line_row, stays_at, slot_inside}
use Rattle.refusals.specs.declared.Refusal.TheVariants as refusal

-- ---- the mark of a slot is that of its fragment, where marks agree
-- the first slot's mark is that of the first fragment
pub first_mark : (ss : List Slot) → (tail_of ss).some ≡ true → mark_of (tail_of ss).count ss ≡ (tail_of ss).mark
unfolding mark_of tail_of step_tail
first_mark [] e = absurd (false≢true e)
first_mark (s ∷ ss) e = rw (eq-eqb (step_tail s (tail_of ss)).count (step_tail s (tail_of ss)).count refl)

-- fragments from slot j on are some of all
pub count_within : (ss : List Slot) (j : ℕ) → (tail_of (drop j ss)).count ≤ (tail_of ss).count
unfolding tail_of step_tail
count_within [] zero = omega arith
count_within [] (suc j) = omega arith
count_within (s ∷ ss) zero = omega arith
count_within (s ∷ ss) (suc j) = go (joins s (tail_of ss)) (count_within ss j)
  where
    go : (b : Bool) → (tail_of (drop j ss)).count ≤ (tail_of ss).count → (tail_of (drop j ss)).count ≤ pick b (tail_of ss).count ((tail_of ss).count + 1)
    go true h = h
    go false h = omega arith

some_count : (ss : List Slot) → (tail_of ss).some ≡ true → 1 ≤ (tail_of ss).count
unfolding tail_of step_tail
some_count [] e = absurd (false≢true e)
some_count (s ∷ ss) e = go (joins s (tail_of ss)) refl (λ h. some_count ss h)
  where
    go : (b : Bool) → joins s (tail_of ss) ≡ b → ((tail_of ss).some ≡ true → 1 ≤ (tail_of ss).count) → 1 ≤ pick b (tail_of ss).count ((tail_of ss).count + 1)
    go true u again = again (joins_some s (tail_of ss) u)
    go false u again = omega arith

drop_some : (ss : List Slot) (j : ℕ) → j < length ss → (tail_of (drop j ss)).some ≡ true
unfolding tail_of step_tail
drop_some [] j h = absurd (omega arith)
drop_some (s ∷ ss) zero h = refl
drop_some (s ∷ ss) (suc j) h = drop_some ss j (omega arith)

-- and at least one
pub count_least : (ss : List Slot) (j : ℕ) → j < length ss → 1 ≤ (tail_of (drop j ss)).count
count_least ss j h = some_count (drop j ss) (drop_some ss j h)

pub slot_mark : (ss : List Slot) (j : ℕ) → j < length ss → (tail_of ss).agree ≡ true → (get_or ss j no_slot).mark ≡ mark_of (tail_of (drop j ss)).count ss
unfolding mark_of tail_of step_tail either
slot_mark [] j h a = absurd (omega arith)
slot_mark (s ∷ ss) zero h a = rw (eq-eqb (step_tail s (tail_of ss)).count (step_tail s (tail_of ss)).count refl)
slot_mark (s ∷ ss) (suc j) h a =
    let w = both_split (tail_of ss).agree (either (not (joins s (tail_of ss))) (eqb s.mark (tail_of ss).mark)) a in
    slot_mark ss j (omega arith) w.0 ∙ sym (go (joins s (tail_of ss)) refl w.1 (eqb (step_tail s (tail_of ss)).count (tail_of (drop j ss)).count) refl)
  where
    -- a slot before the fragment is not of it, or it goes with the first of it
    go : (b : Bool) → joins s (tail_of ss) ≡ b → either (not b) (eqb s.mark (tail_of ss).mark) ≡ true
        → (x : Bool) → eqb (pick b (tail_of ss).count ((tail_of ss).count + 1)) (tail_of (drop j ss)).count ≡ x
        → pick x s.mark (mark_of (tail_of (drop j ss)).count ss) ≡ mark_of (tail_of (drop j ss)).count ss
    go b u e false v = refl
    go false u e true v = let z : (tail_of ss).count + 1 ≡ (tail_of (drop j ss)).count = eqb-true _ _ v in absurd (omega (arith, count_within ss j))
    go true u e true v =
        let z : (tail_of ss).count ≡ (tail_of (drop j ss)).count = eqb-true _ _ v in
        eqb-true _ _ e ∙ rw (← z) (sym (first_mark ss (joins_some s (tail_of ss) u)))

byte_aside : (b : Bool) → eqb (mark_byte b) mark_aside ≡ b
byte_aside true = refl
byte_aside false = refl

-- ---- a slot of the table after loading and orders
abbrev kept : List ℕ → List Slot → List Order → List Slot
kept t xs os = orders_of t (over (loaded_of t) xs) os

module _ (t : List ℕ) (xs : List Slot) (os : List Order) (e : (check_of t).number ≡ 0) (j : ℕ) (h : j < length (loaded_of t)) where
  loaded : Ready t (over (loaded_of t) xs)
  loaded = fresh_ready t xs e

  kept_ready : Ready t (kept t xs os)
  kept_ready = orders_ready t (over (loaded_of t) xs) os loaded

  within : (ys : List Slot) → Ready t ys → j < length (mine t ys)
  within ys R = simp length-take (omega (arith, R.room))

  pub kept_mark : (get_or (kept t xs os) j no_slot).mark ≡ mark_byte (last_of t (over (loaded_of t) xs) (fragment_of t (over (loaded_of t) xs) j) false os)
  unfolding fragment_of
  kept_mark =
      let ys = kept t xs os in
      let zs = over (loaded_of t) xs in
      let c : ℕ = (tail_of (drop j (mine t zs))).count in
      let low : 1 ≤ c = count_least (mine t zs) j (within zs loaded) in
      let high : c ≤ fragments t zs = count_within (mine t zs) j in
      let same : (tail_of (drop j (mine t ys))).count ≡ c = orders_last (λ ss. (tail_of (drop j ss)).count) (count_lasts j) t zs os loaded in
      let all : fragments t ys ≡ fragments t zs = orders_count t zs os loaded in
      let back : fragments t ys + 1 - (fragments t zs + 1 - c) ≡ c = omega arith in
      ap (λ (s : Slot). s.mark) (sym (get_or-take (length (loaded_of t)) ys j no_slot h))
      ∙ slot_mark (mine t ys) j (within ys kept_ready) kept_ready.agree
      ∙ ap (λ (n : ℕ). mark_of n (mine t ys)) (same ∙ sym back)
      ∙ orders_mark t zs os (record { 0 = fragments t zs + 1 - c }) false loaded (omega arith) (omega arith) (fresh_in t xs (fragments t zs + 1 - (fragments t zs + 1 - c)))

-- ---- the line
pub line_goes : (t : List ℕ) (xs : List Slot) (os : List Order) → (check_of t).number ≡ 0 → (i : ℕ) → i < length (lines_from t 0) → is_coord (row t i) ≡ true
    → get_or (stays_from (kept t xs os) 0 (lines_from t 0)) i true ≡ not (last_of t (over (loaded_of t) xs) (fragment_of t (over (loaded_of t) xs) (slots_to t i)) false os)
unfolding slots_to
line_goes t xs os e i h c =
    let d : Line = Bad refusal.Length in
    let r : is_coord (get_or (lines_from t 0) i d) ≡ true = ap is_coord (line_row t d i 0 h ∙ ap (row t) (zero_plus i)) ∙ c in
    stays_at (kept t xs os) d (lines_from t 0) i 0 h r
    ∙ ap (λ (n : ℕ). not (eqb (get_or (kept t xs os) n no_slot).mark mark_aside)) (zero_plus (length (slots_of no_model (take i (lines_from t 0)))))
    ∙ ap (λ (m : ℕ). not (eqb m mark_aside)) (kept_mark t xs os e (length (slots_of no_model (take i (lines_from t 0)))) (slot_inside d (lines_from t 0) i h r))
    ∙ ap not (byte_aside (last_of t (over (loaded_of t) xs) (fragment_of t (over (loaded_of t) xs) (slots_to t i)) false os))
  where
    zero_plus : (n : ℕ) → 0 + n ≡ n
    zero_plus n = omega arith
