-- Going over the slots from the last one on.
-- Assumes nothing.
use Prim.Native.Nat.{ℕ, zero, suc, ◌+◌, ◌≤◌, ◌<◌}
use mathlib.Core.List.{List, [], ◌∷◌, ◌++◌, append-nil}
use mathlib.Core.Bool.{Bool, true, false}
use mathlib.Core.Path.{◌≡◌, refl, sym, ◌∙◌, ap}
use native.Mathlib.Omega.{arith}
use native.Mathlib.Nat.{not-suc-le-zero, le_of_suc-le-suc}
use native.Mathlib.Numerals.{add-one}
use lib.Dec.{eqb}
use Rattle.std.proofs.lemmas.List.{get_or_default}
use lib.ListN.{length, get_or, set, take, drop, length-set, length-take, drop_of_length-le, take-append-drop, get_or-append}
use lib.Seq.{drop-cons, get_or-take, take_all}
use Rattle.ascii.specs.Tests.{pick}
use Rattle.slots.specs.declared.Slot.{Slot}
use Rattle.fragments.specs.declared.Tail.{Tail}
use Rattle.slots.specs.Slots.{no_slot, with_mark}
use Rattle.table.proofs.Aside.{count_within, count_least}
use Rattle.table.proofs.AllMarks.{marked_by_step}
use Rattle.table.proofs.Numbers.{numbered_step}
use Rattle.fragments.specs.Fragments.{joins, step_tail, tail_of, mark_of, marked, marked_by, turned, numbered}

-- a slot that is read inside the table is the same whatever would be read past its end
pub read : (xs : List Slot) (j : ℕ) (d : Slot) → j < length xs → get_or xs j d ≡ get_or xs j no_slot
read xs j d h = get_or_default xs j d no_slot h

module _ (xs : List Slot) (k j : ℕ) (e : k ≡ j + 1) (h : j < length xs) where
  rest : drop j xs ≡ get_or xs j no_slot ∷ drop k xs
  rest = rw (e, add-one) (drop-cons xs j no_slot h)

  pub tail_step : (t u : Tail) → t ≡ tail_of (drop k xs) → u ≡ step_tail (get_or xs j no_slot) t → u ≡ tail_of (drop j xs)
  unfolding tail_of
  tail_step t u a b = rw (rest, ← a) b

  pub mark_step : (b : ℕ) (u : Tail) (m n : ℕ) → u ≡ tail_of (drop j xs) → m ≡ mark_of b (drop k xs) → n ≡ pick (eqb u.count b) (get_or xs j no_slot).mark m
      → n ≡ mark_of b (drop j xs)
  unfolding mark_of
  mark_step b u m n a c d = rw (rest, ← c) (rw (a, rest) at d)

  pub marked_step : (b m : ℕ) (u : Tail) → u ≡ tail_of (drop j xs)
      → marked b m (drop j xs) ≡ pick (eqb u.count b) (with_mark (get_or xs j no_slot) m) (get_or xs j no_slot) ∷ marked b m (drop k xs)
  unfolding marked
  marked_step b m u q = rw (q, rest)

pub tail_count : (s : Slot) (t u : Tail) → u ≡ step_tail s t → u.count ≤ t.count + 1
unfolding step_tail
tail_count s t u e = rw e (go (joins s t))
  where
    go : (b : Bool) → pick b t.count (t.count + 1) ≤ t.count + 1
    go true = omega arith
    go false = omega arith

set_front : {A : Type 0} (xs r : List A) (j : ℕ) (v : A) → j < length xs → set (take (suc j) xs ++ r) j v ≡ take j xs ++ (v ∷ r)
set_front [] r j v h = absurd (not-suc-le-zero h)
set_front (x ∷ []) r zero v h = refl
set_front (x ∷ (y ∷ xs)) r zero v h = refl
set_front {A} (x ∷ xs) r (suc j) v h = ap (λ (q : List A). x ∷ q) (set_front xs r j v (le_of_suc-le-suc h))

get_front : (xs r : List Slot) (j : ℕ) → j < length xs → get_or (take (suc j) xs ++ r) j no_slot ≡ get_or xs j no_slot
get_front xs r j h =
    let inside : j < length (take (suc j) xs) = omega (arith, length-take (suc j) xs) in
    get_or-append (take (suc j) xs) r no_slot j inside ∙ get_or-take (suc j) xs j no_slot (omega arith)

-- the slots from k on are done: D says what becomes of a stretch of slots
pub record Marking (e : List Slot) (D : List Slot → List Slot) (k : ℕ) (t : Tail) (xs : List Slot) : Type 0 where
  pub size : length xs ≡ length e
  pub inside : k ≤ length e
  pub few : t.count + k ≤ length e
  pub tail : t ≡ tail_of (drop k e)
  pub held : xs ≡ take k e ++ D (drop k e)

pub marking_start : (e : List Slot) (D : List Slot → List Slot) (t : Tail) → D [] ≡ [] → t ≡ tail_of [] → Marking e D (length e) t e
unfolding tail_of
marking_start e D t d q =
    let z : drop (length e) e ≡ [] = drop_of_length-le e {i = length e} (omega arith) in
    record {
      size = refl;
      inside = omega arith;
      few = rw q (omega arith);
      tail = rw (z, q);
      held = rw (z, take_all (length e) e (omega arith), d) (sym (append-nil e));
    }

module _ (e : List Slot) (D : List Slot → List Slot) (k : ℕ) (t : Tail) (xs : List Slot) (M : Marking e D k t xs) (j : ℕ) (q : k ≡ j + 1) where
  inside : j < length e
  inside = omega (arith, M.inside)

  front : xs ≡ take (suc j) e ++ D (drop k e)
  front = M.held ∙ rw (q, add-one)

  -- the slot that is taken next is as it was found
  pub as_found : get_or xs j no_slot ≡ get_or e j no_slot
  as_found = ap (λ (r : List Slot). get_or r j no_slot) front ∙ get_front e (D (drop k e)) j inside

  pub marking_next : (u : Tail) (v : Slot) → u ≡ step_tail (get_or xs j no_slot) t → (u ≡ tail_of (drop j e) → D (drop j e) ≡ v ∷ D (drop k e)) → Marking e D j u (set xs j v)
  marking_next u v c d =
      let c2 : u ≡ step_tail (get_or e j no_slot) t = rw as_found at c in
      let p : u ≡ tail_of (drop j e) = tail_step e k j q inside t u M.tail c2 in
      record {
        size = length-set xs j v ∙ M.size;
        inside = omega (arith, inside);
        few = omega (arith, tail_count (get_or e j no_slot) t u c2, M.few);
        tail = p;
        held = ap (λ (r : List Slot). set r j v) front ∙ (set_front e (D (drop k e)) j v inside ∙ rw (d p));
      }

pub marking_done : (e : List Slot) (D : List Slot → List Slot) (k : ℕ) (t : Tail) (xs : List Slot) → Marking e D k t xs → k ≡ 0 → xs ≡ D e
marking_done e D k t xs M z = M.held ∙ rw z (at_zero e)
  where
    at_zero : (e : List Slot) → take 0 e ++ D (drop 0 e) ≡ D e
    at_zero [] = refl
    at_zero (x ∷ e) = refl

-- of a stretch from slot j on there is at least one fragment, and no more than there are
tail_within : (e : List Slot) (j : ℕ) → j < length e → (u : Tail) → u ≡ tail_of (drop j e) → (1 ≤ u.count) × (u.count ≤ (tail_of e).count)
tail_within e j h u q = rw q (count_least e j h, count_within e j)

-- the same once the next slot is taken
pub marking_within : (e : List Slot) (D : List Slot → List Slot) (k : ℕ) (t : Tail) (xs : List Slot) (M : Marking e D k t xs) (j : ℕ) (q : k ≡ j + 1)
    (u : Tail) → u ≡ step_tail (get_or xs j no_slot) t → (1 ≤ u.count) × (u.count ≤ (tail_of e).count)
marking_within e D k t xs M j q u c =
    let h : j < length e = omega (arith, M.inside) in
    tail_within e j h u (tail_step e k j q h t u M.tail (rw (as_found e D k t xs M j q) at c))

-- ---- what is done to a slot: one fragment is marked, or each as a byte asks
module _ (e : List Slot) (k : ℕ) (t : Tail) (xs : List Slot) (j : ℕ) (q : k ≡ j + 1) (u : Tail) (v : Slot) (c : u ≡ step_tail (get_or xs j no_slot) t) where
  pub one_next : (b m : ℕ) → Marking e (marked b m) k t xs → v ≡ pick (eqb u.count b) (with_mark (get_or xs j no_slot) m) (get_or xs j no_slot) → Marking e (marked b m) j u (set xs j v)
  one_next b m M d =
      marking_next e (marked b m) k t xs M j q u v c
      (λ p. marked_step e k j q (omega (arith, M.inside)) b m u p ∙ ap (λ (w : Slot). w ∷ marked b m (drop k e)) (sym (rw (as_found e (marked b m) k t xs M j q) at d)))

  pub each_next : (m : ℕ → ℕ) → Marking e (marked_by m) k t xs → v ≡ with_mark (get_or xs j no_slot) (m u.count) → Marking e (marked_by m) j u (set xs j v)
  each_next m M d =
      marking_next e (marked_by m) k t xs M j q u v c
      (λ p. marked_by_step m e k j q (omega (arith, M.inside)) u p ∙ ap (λ (w : Slot). w ∷ marked_by m (drop k e)) (sym (rw (as_found e (marked_by m) k t xs M j q) at d)))

-- ---- the numbers of the slots from k on are written
pub record Numbering (e : List Slot) (o : List ℕ) (n k : ℕ) (t : Tail) (ys : List ℕ) : Type 0 where
  pub size : length ys ≡ length o
  pub inside : k ≤ length e
  pub few : t.count + k ≤ length e
  pub tail : t ≡ tail_of (drop k e)
  pub held : ys ≡ take k o ++ (numbered n (drop k e) ++ drop (length e) o)

pub numbering_start : (e : List Slot) (o : List ℕ) (n : ℕ) (t : Tail) → length e ≤ length o → t ≡ tail_of [] → Numbering e o n (length e) t o
unfolding tail_of numbered
numbering_start e o n t h q =
    let z : drop (length e) e ≡ [] = drop_of_length-le e {i = length e} (omega arith) in
    record {
      size = refl;
      inside = omega arith;
      few = rw q (omega arith);
      tail = rw (z, q);
      held = rw z (sym (take-append-drop (length e) o));
    }

pub numbering_next : (e : List Slot) (o : List ℕ) (n k : ℕ) (t : Tail) (ys : List ℕ) → length e ≤ length o → Numbering e o n k t ys → (j : ℕ) → k ≡ j + 1
    → (u : Tail) (v : ℕ) → u ≡ step_tail (get_or e j no_slot) t → v ≡ turned n u.count → Numbering e o n j u (set ys j v)
numbering_next e o n k t ys h N j q u v c d =
    let i : j < length e = omega (arith, N.inside) in
    let w : ys ≡ take (suc j) o ++ (numbered n (drop k e) ++ drop (length e) o) = N.held ∙ rw (q, add-one) in
    let p : u ≡ tail_of (drop j e) = tail_step e k j q i t u N.tail c in
    record {
      size = length-set ys j v ∙ N.size;
      inside = omega arith;
      few = omega (arith, tail_count (get_or e j no_slot) t u c, N.few);
      tail = p;
      held = ap (λ (r : List ℕ). set r j v) w ∙ (set_front o (numbered n (drop k e) ++ drop (length e) o) j v (omega arith) ∙ rw (numbered_step n e k j q i u p, d));
    }

pub numbering_within : (e : List Slot) (o : List ℕ) (n k : ℕ) (t : Tail) (ys : List ℕ) → Numbering e o n k t ys → (j : ℕ) → k ≡ j + 1
    → (u : Tail) → u ≡ step_tail (get_or e j no_slot) t → u.count ≤ (tail_of e).count
numbering_within e o n k t ys N j q u c =
    let h : j < length e = omega (arith, N.inside) in
    (tail_within e j h u (tail_step e k j q h t u N.tail c)).1

pub numbering_done : (e : List Slot) (o : List ℕ) (n k : ℕ) (t : Tail) (ys : List ℕ) → Numbering e o n k t ys → k ≡ 0 → ys ≡ numbered n e ++ drop (length e) o
numbering_done e o n k t ys N z = N.held ∙ rw z (at_zero e o)
  where
    at_zero : (e : List Slot) (o : List ℕ) → take 0 o ++ (numbered n (drop 0 e) ++ drop (length e) o) ≡ numbered n e ++ drop (length e) o
    at_zero [] [] = refl
    at_zero [] (y ∷ o) = refl
    at_zero (x ∷ e) [] = refl
    at_zero (x ∷ e) (y ∷ o) = refl
