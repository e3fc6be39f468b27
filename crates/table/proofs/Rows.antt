-- Lines by their index: which line it is, whether it stays, which slot is its own, and how many slots are before it.
-- Assumes nothing.
use Prim.Native.Nat.{ℕ, zero, suc, ◌+◌, ◌*◌, ◌≤◌, ◌<◌}
use mathlib.Core.List.{List, [], ◌∷◌, map}
use mathlib.Core.Bool.{Bool, true, false, not}
use mathlib.Core.Path.{◌≡◌, refl, sym, ◌∙◌, ap}
use native.Mathlib.Omega.{arith}
use borrow.Author.Tests.{ltb-true, ltb-false}
use lib.Dec.{eqb, ltb}
use lib.ListN.{length, take, get_or}
use lib.Seq.{take_all}
use Rattle.ascii.specs.Tests.{pick}
use Rattle.pieces.specs.declared.Line.{Line}
use Rattle.pieces.specs.Pieces.{line_of}
use Rattle.rows.specs.Text.{row}
use Rattle.facets.specs.Facets.{is_coord}
use Rattle.rows.proofs.Cut.{cut_next, cut_done}
use Rattle.slots.specs.declared.Slot.{Slot}
use Rattle.slots.specs.Slots.{mark_aside, no_model, no_slot, line_slot}
use Rattle.table.specs.Table.{lines_from, model_next, slots_of, loaded_of, one_of}
use Rattle.table.specs.Deal.{stays}
use Rattle.table.specs.Promise.{stays_from, slots_to}

pub lines_next : (t : List ℕ) (i : ℕ) → 81 * i < length t → lines_from t i ≡ row t i ∷ lines_from t (i + 1)
unfolding lines_from row
lines_next t i h = ap (map line_of) (cut_next t i h)

pub lines_done : (t : List ℕ) (i : ℕ) → length t ≤ 81 * i → lines_from t i ≡ []
unfolding lines_from
lines_done t i h = ap (map line_of) (cut_done t i h)

-- where there are lines there are bytes
pub lines_some : (t : List ℕ) (k : ℕ) → 0 < length (lines_from t k) → 81 * k < length t
lines_some t k h = go (ltb (81 * k) (length t)) refl
  where
    go : (b : Bool) → ltb (81 * k) (length t) ≡ b → 81 * k < length t
    go true u = ltb-true _ _ u
    go false u = let z : length (lines_from t k) ≡ 0 = ap length (lines_done t k (ltb-false _ _ u)) in absurd (omega arith)

-- the lines are the rows
pub line_row : (t : List ℕ) (d : Line) (i k : ℕ) → i < length (lines_from t k) → get_or (lines_from t k) i d ≡ row t (k + i)
line_row t d zero k h =
    let e : k + 0 ≡ k = omega arith in
    rw (lines_next t k (lines_some t k (omega arith)), e)
line_row t d (suc i) k h =
    let e : k + 1 + i ≡ k + suc i = omega arith in
    let n : lines_from t k ≡ row t k ∷ lines_from t (k + 1) = lines_next t k (lines_some t k (omega arith)) in
    let z : length (lines_from t k) ≡ suc (length (lines_from t (k + 1))) = ap length n in
    rw (n, ← e) (line_row t d i (k + 1) (omega arith))

-- a line with a slot gives one slot more
pub slots_count : (m : ℕ) (l : Line) (ls : List Line) → length (slots_of m (l ∷ ls)) ≡ one_of l + length (slots_of (model_next m l) ls)
unfolding slots_of
slots_count m l ls = go (is_coord l) (slots_of (model_next m l) ls)
  where
    go : (b : Bool) (ss : List Slot) → length (pick b (line_slot m l ∷ ss) ss) ≡ pick b 1 0 + length ss
    go true ss = omega arith
    go false ss = omega arith

-- how many slots lines have does not depend on their models
pub slots_any : (m n : ℕ) (ls : List Line) → length (slots_of m ls) ≡ length (slots_of n ls)
unfolding slots_of
slots_any m n [] = refl
slots_any m n (l ∷ ls) = slots_count m l ls ∙ ap (λ (x : ℕ). one_of l + x) (slots_any (model_next m l) (model_next n l) ls) ∙ sym (slots_count n l ls)

-- a coordinate line stays unless the slot after those of the lines before it is aside
pub stays_at : (xs : List Slot) (d : Line) (ls : List Line) (i k : ℕ) → i < length ls → is_coord (get_or ls i d) ≡ true
    → get_or (stays_from xs k ls) i true ≡ not (eqb (get_or xs (k + length (slots_of no_model (take i ls))) no_slot).mark mark_aside)
unfolding stays_from slots_of stays
stays_at xs d [] i k h c = absurd (omega arith)
stays_at xs d (l ∷ ls) zero k h c = let e : k + 0 ≡ k = omega arith in rw (c, e)
stays_at xs d (l ∷ ls) (suc i) k h c =
    let e : k + one_of l + length (slots_of no_model (take i ls)) ≡ k + length (slots_of no_model (l ∷ take i ls)) =
    omega (arith, slots_count no_model l (take i ls), slots_any no_model (model_next no_model l) (take i ls)) in
    stays_at xs d ls i (k + one_of l) (omega arith) c ∙ ap (λ (n : ℕ). not (eqb (get_or xs n no_slot).mark mark_aside)) e

-- it has a slot of its own
pub slot_inside : (d : Line) (ls : List Line) (i : ℕ) → i < length ls → is_coord (get_or ls i d) ≡ true → length (slots_of no_model (take i ls)) < length (slots_of no_model ls)
unfolding slots_of
slot_inside d [] i h c = absurd (omega arith)
slot_inside d (l ∷ ls) zero h c = rw c (omega arith)
slot_inside d (l ∷ ls) (suc i) h c =
    let u : length (slots_of no_model (take i ls)) < length (slots_of no_model ls) = slot_inside d ls i (omega arith) c in
    let n : ℕ = model_next no_model l in
    omega (arith, slots_count no_model l (take i ls), slots_count no_model l ls, slots_any no_model n (take i ls), slots_any no_model n ls)

-- ---- how many slots the first lines have
pub slots_none : (t : List ℕ) → slots_to t 0 ≡ 0
unfolding slots_to slots_of
slots_none t = refl

-- a line more, from line k on
slots_from : (t : List ℕ) (m i k : ℕ) → 81 * (k + i) < length t
    → length (slots_of m (take (suc i) (lines_from t k))) ≡ length (slots_of m (take i (lines_from t k))) + one_of (row t (k + i))
unfolding slots_of
slots_from t m zero k h =
    let e : k + 0 ≡ k = omega arith in
    rw (lines_next t k (omega arith), e) (omega (arith, slots_count m (row t k) []))
slots_from t m (suc i) k h =
    let e : k + 1 + i ≡ k + suc i = omega arith in
    let n : ℕ = model_next m (row t k) in
    let r : length (slots_of n (take (suc i) (lines_from t (k + 1)))) ≡ length (slots_of n (take i (lines_from t (k + 1)))) + one_of (row t (k + suc i)) =
    rw (← e) (slots_from t n i (k + 1) (omega arith)) in
    let u : List Line = lines_from t (k + 1) in
    rw (lines_next t k (omega arith)) (omega (arith, r, slots_count m (row t k) (take (suc i) u), slots_count m (row t k) (take i u)))

-- the same from the first line on
pub slots_more : (t : List ℕ) (i : ℕ) → 81 * i < length t → slots_to t (suc i) ≡ slots_to t i + one_of (row t i)
unfolding slots_to
slots_more t i h = let e : 0 + i ≡ i = omega arith in rw e at (slots_from t no_model i 0 (omega arith))

-- no more lines than the bytes have
lines_few : (t : List ℕ) (n k : ℕ) → length t ≤ 81 * (k + n) → length (lines_from t k) ≤ n
lines_few t zero k h = omega (arith, ap length (lines_done t k (omega arith)))
lines_few t (suc n) k h = go (ltb (81 * k) (length t)) refl (lines_few t n (k + 1) (omega arith))
  where
    go : (b : Bool) → ltb (81 * k) (length t) ≡ b → length (lines_from t (k + 1)) ≤ n → length (lines_from t k) ≤ suc n
    go true u r = omega (arith, ap length (lines_next t k (ltb-true _ _ u)))
    go false u r = omega (arith, ap length (lines_done t k (ltb-false _ _ u)))

-- all lines have the slots of the text
pub slots_all : (t : List ℕ) (n : ℕ) → length t ≤ 81 * n → slots_to t n ≡ length (loaded_of t)
unfolding slots_to
slots_all t n h = rw (take_all n (lines_from t 0) (lines_few t n 0 (omega arith)))
