-- Filling the table from the front.
-- Assumes nothing.
use Prim.Native.Nat.{ℕ, suc, ◌+◌, ◌*◌, ◌≤◌, ◌<◌}
use mathlib.Core.List.{List, [], ◌∷◌, ◌++◌, append-nil}
use mathlib.Core.Bool.{Bool, true, false}
use mathlib.Core.Path.{◌≡◌, refl, sym, ◌∙◌, ap}
use native.Mathlib.Omega.{arith}
use native.Mathlib.Numerals.{add-one}
use lib.ListN.{length, set, take, drop, length-set, take-append-drop}
use lib.Seq.{append_snoc, drop-drop, drop-set-lt, take-suc-set}
use Rattle.ascii.specs.Tests.{pick}
use Rattle.pieces.specs.declared.Line.{Line}
use Rattle.rows.specs.Text.{row}
use Rattle.facets.specs.Facets.{is_coord}
use Rattle.slots.specs.declared.Slot.{Slot}
use Rattle.slots.specs.Slots.{no_model, line_slot}
use Rattle.table.specs.Table.{lines_from, model_next, slots_of, loaded_of, one_of}
use Rattle.table.proofs.Rows.{lines_next, lines_done, slots_any}
use Rattle.store.proofs.Lines.{need_step, need_done}

drop_more : (xs ys : List Slot) (k : ℕ) → drop k xs ≡ drop k ys → drop (suc k) xs ≡ drop (suc k) ys
drop_more xs ys k e = rw (← add-one) (sym (drop-drop 1 k xs) ∙ (ap (drop 1) e ∙ drop-drop 1 k ys))

-- the slots of the first i lines stand in the first k slots; the rest is as found
pub record Filled (t : List ℕ) (e : List Slot) (n i k m : ℕ) (xs : List Slot) : Type 0 where
  pub size : length xs ≡ length e
  pub fits : n ≤ length e
  pub need : n ≡ length (loaded_of t)
  pub room : k + length (slots_of m (lines_from t i)) ≡ n
  pub front : take k xs ++ slots_of m (lines_from t i) ≡ loaded_of t
  pub back : drop k xs ≡ drop k e

pub filled_start : (t : List ℕ) (e : List Slot) (n : ℕ) → n ≡ length (loaded_of t) → n ≤ length e → Filled t e n 0 0 no_model e
filled_start t e n q h = record { size = refl; fits = h; need = q; room = omega arith; front = refl; back = refl }

module _ (t : List ℕ) (e : List Slot) (n i k m : ℕ) (xs : List Slot) (F : Filled t e n i k m xs) where
  pub filled_next : (l : Line) (ys : List Slot) → 81 * i < length t → l ≡ row t i → ys ≡ pick (is_coord l) (set xs k (line_slot m l)) xs → Filled t e n (i + 1) (k + one_of l) (model_next m l) ys
  unfolding slots_of
  filled_next l ys h q w = go (is_coord l) refl w
    where
      lines : lines_from t i ≡ l ∷ lines_from t (i + 1)
      lines = rw q (lines_next t i h)

      here : (b : Bool) → is_coord l ≡ b → slots_of m (lines_from t i) ≡ pick b (line_slot m l ∷ slots_of (model_next m l) (lines_from t (i + 1))) (slots_of (model_next m l) (lines_from t (i + 1)))
      here b u = ap (slots_of m) lines ∙ rw u

      go : (b : Bool) → is_coord l ≡ b → ys ≡ pick b (set xs k (line_slot m l)) xs → Filled t e n (i + 1) (k + pick b 1 0) (model_next m l) ys
      go true u v =
          let a : length (slots_of m (lines_from t i)) ≡ 1 + length (slots_of (model_next m l) (lines_from t (i + 1))) = ap length (here true u) ∙ omega arith in
          let r : k < length xs = omega (arith, F.size, F.fits, F.room) in
          record {
            size = ap length v ∙ (length-set xs k (line_slot m l) ∙ F.size);
            fits = F.fits;
            need = F.need;
            room = omega (arith, F.room);
            front = rw (v, add-one, take-suc-set xs k (line_slot m l) r, append_snoc) (rw (here true u) at F.front);
            back = rw (v, add-one, drop-set-lt (suc k) xs k (line_slot m l) (omega arith)) (drop_more xs e k F.back);
          }
      go false u v =
          let z : k + 0 ≡ k = omega arith in
          rw (v, z)
          (record { size = F.size; fits = F.fits; need = F.need; room = rw (here false u) at F.room; front = rw (here false u) at F.front; back = F.back })

  -- there is room for the slot of the line
  pub filled_more : (l : Line) → 81 * i < length t → l ≡ row t i → k + one_of l ≤ n
  filled_more l h q =
      omega (arith, need_step t i k n l h q (ap (λ (x : ℕ). k + x) (slots_any no_model m (lines_from t i)) ∙ F.room))

pub filled_done : (t : List ℕ) (e : List Slot) (n i k m : ℕ) (xs : List Slot) → Filled t e n i k m xs → length t ≤ 81 * i
    → xs ≡ loaded_of t ++ drop (length (loaded_of t)) e
unfolding slots_of
filled_done t e n i k m xs F h =
    let z : slots_of m (lines_from t i) ≡ [] = ap (slots_of m) (lines_done t i h) in
    let f : take k xs ≡ loaded_of t = sym (append-nil (take k xs)) ∙ (rw z at F.front) in
    let q : k ≡ length (loaded_of t) = need_done t i k n h (ap (λ (x : ℕ). k + x) (slots_any no_model m (lines_from t i)) ∙ F.room) ∙ F.need in
    sym (take-append-drop k xs) ∙ (rw (f, F.back, q))
