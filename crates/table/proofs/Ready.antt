-- A table that belongs to a text still does after any order, granted or refused.
-- Assumes nothing.
use Prim.Native.Nat.{ℕ, zero, suc, ◌+◌, ◌≤◌}
use mathlib.Core.List.{List, [], ◌∷◌, ◌++◌}
use mathlib.Core.Bool.{Bool, true, false, not}
use mathlib.Core.Path.{◌≡◌, refl, ◌∙◌, ap}
use native.Mathlib.Omega.{arith}
use borrow.Author.Tests.{eqb-true, eqb-false, ltb-false, le-ltb, le-leb}
use lib.Dec.{eqb, ltb, leb}
use lib.ListN.{length, take, drop, get_or, length-append, length-take}
use lib.Seq.{take_at}
use Rattle.fields.specs.declared.FragmentNumber.{FragmentNumber}
use Rattle.ascii.specs.Tests.{pick, both, either}
use Rattle.ascii.proofs.Choice.{both_split, both_join}
use Rattle.pieces.specs.declared.Line.{Line}
use Rattle.gate.specs.Gate.{check_of}
use Rattle.facets.specs.Facets.{is_coord}
use Rattle.slots.specs.declared.Slot.{Slot}
use Rattle.slots.specs.Slots.{mark_aside, no_model, no_slot, line_slot, same_measures, same_names, same_slot, with_mark}
use Rattle.fragments.specs.Fragments.{tail_of, mark_of, marked}
use Rattle.table.specs.Table.{Told, told, over, lines_from, model_next, loaded_of, fits, one_of, fits_from, mine, belongs, table_of, fragments, back_of, mark_byte, order_of}
use Rattle.table.proofs.Marks.{marked_size, after}

-- ---- marks do not count when a slot is held against its line
-- s fits every line that u fits
abbrev Serves : Slot → Slot → Type 0
Serves s u = (i : ℕ) (l : Line) → fits u i l ≡ true → fits s i l ≡ true

serves_marked : (s : Slot) (m : ℕ) → m ≤ mark_aside → Serves (with_mark s m) s
unfolding fits with_mark same_slot same_names same_measures
serves_marked s m h i l = go (is_coord l)
  where
    go : (b : Bool) → pick b (both (leb s.mark mark_aside) (same_slot s (line_slot i l))) true ≡ true
        → pick b (both (leb m mark_aside) (same_slot (with_mark s m) (line_slot i l))) true ≡ true
    go true e = both_join _ _ (le-leb m mark_aside h) (both_split (leb s.mark mark_aside) _ e).1
    go false e = refl

serves_pick : (x : Bool) (s : Slot) (m : ℕ) → m ≤ mark_aside → Serves (pick x (with_mark s m) s) s
serves_pick true s m h = serves_marked s m h
serves_pick false s m h = λ i l e. e

over_serves : (b m : ℕ) → m ≤ mark_aside → (xs : List Slot) (n k : ℕ) → Serves (get_or (marked b m (take n xs) ++ drop n xs) k no_slot) (get_or xs k no_slot)
unfolding marked
over_serves b m h [] zero k = λ i l e. e
over_serves b m h [] (suc n) k = λ i l e. e
over_serves b m h (x ∷ xs) zero k = λ i l e. e
over_serves b m h (x ∷ xs) (suc n) zero = serves_pick (eqb (tail_of (x ∷ take n xs)).count b) x m h
over_serves b m h (x ∷ xs) (suc n) (suc k) = over_serves b m h xs n k

serves_all : (xs ys : List Slot) → ((k : ℕ) → Serves (get_or xs k no_slot) (get_or ys k no_slot)) → (k i : ℕ) (ls : List Line) → fits_from ys k i ls ≡ true → fits_from xs k i ls ≡ true
unfolding fits_from
serves_all xs ys h k i [] e = refl
serves_all xs ys h k i (l ∷ ls) e =
    let w = both_split (fits (get_or ys k no_slot) i l) _ e in
    both_join _ _ (h k i l w.0) (serves_all xs ys h (k + one_of l) (model_next i l) ls w.1)

-- ---- text and table get no number
pub record Ready (t : List ℕ) (xs : List Slot) : Type 0 where
  pub good : (check_of t).number ≡ 0
  pub room : length (loaded_of t) ≤ length xs
  pub fit : fits_from xs 0 no_model (lines_from t 0) ≡ true
  pub agree : (tail_of (mine t xs)).agree ≡ true

pub ready : (t : List ℕ) (xs : List Slot) → table_of t xs ≡ 0 → Ready t xs
unfolding table_of belongs both
ready t xs = go (eqb (check_of t).number 0) refl (ltb (length xs) (length (loaded_of t))) refl (fits_from xs 0 no_model (lines_from t 0)) refl (tail_of (mine t xs)).agree refl
  where
    go : (p : Bool) → eqb (check_of t).number 0 ≡ p → (q : Bool) → ltb (length xs) (length (loaded_of t)) ≡ q → (r : Bool) → fits_from xs 0 no_model (lines_from t 0) ≡ r
        → (u : Bool) → (tail_of (mine t xs)).agree ≡ u → pick (not p) (check_of t).number (pick q 13 (pick (not (pick r u false)) 18 0)) ≡ 0 → Ready t xs
    go false e q f r g u h z = absurd (eqb-false _ _ e z)
    go true e true f r g u h z = absurd (omega arith)
    go true e false f false g u h z = absurd (omega arith)
    go true e false f true g false h z = absurd (omega arith)
    go true e false f true g true h z = record { good = eqb-true _ _ e; room = ltb-false _ _ f; fit = g; agree = h }

pub ready_table : (t : List ℕ) (xs : List Slot) → Ready t xs → table_of t xs ≡ 0
unfolding table_of belongs both
ready_table t xs R = rw (R.good, le-ltb (length xs) (length (loaded_of t)) R.room, R.fit, R.agree)

-- ---- one order
module _ (t : List ℕ) (xs : List Slot) (R : Ready t xs) (b m : ℕ) where
  size : length (marked b m (mine t xs)) ≡ length (loaded_of t)
  size = marked_size b m (mine t xs) ∙ simp length-take (omega (arith, R.room))

  pub next_mine : mine t (over (marked b m (mine t xs)) xs) ≡ marked b m (mine t xs)
  next_mine = take_at (marked b m (mine t xs)) (drop (length (marked b m (mine t xs))) xs) (length (loaded_of t)) size

  pub next_ready : m ≤ mark_aside → Ready t (over (marked b m (mine t xs)) xs)
  next_ready h =
      record {
        good = R.good;
        room = simp length-append (omega (arith, size));
        fit = rw size (serves_all _ xs (over_serves b m h xs (length (loaded_of t))) 0 no_model (lines_from t 0) R.fit);
        agree = ap (λ (ys : List Slot). (tail_of ys).agree) next_mine ∙ (after b m (mine t xs)).agree R.agree;
      }

pub byte_mark : (aside : Bool) → mark_byte aside ≤ mark_aside
byte_mark true = omega arith
byte_mark false = omega arith

-- an order to a table that belongs: refused with 15 or 16, or granted to a fragment that there is
pub order_cases : (P : Told Slot → Type 0) (t : List ℕ) (xs : List Slot) (f : FragmentNumber) (aside : Bool) → Ready t xs → P (told 15 0 xs) → P (told 16 0 xs)
    → ((f.0 ≡ 0 → ⊥) → f.0 ≤ fragments t xs → P (told 0 0 (over (marked (back_of t xs f) (mark_byte aside) (mine t xs)) xs))) → P (order_of t xs f aside)
unfolding order_of either
order_cases P t xs f aside R p q r =
    rw (ready_table t xs R) (go (eqb f.0 0) refl (ltb (fragments t xs) f.0) refl (eqb (mark_of (back_of t xs f) (mine t xs)) (mark_byte aside)))
  where
    go : (x : Bool) → eqb f.0 0 ≡ x → (y : Bool) → ltb (fragments t xs) f.0 ≡ y → (z : Bool)
        → P (pick {A = Told Slot} (pick x true y) (told 15 0 xs) (pick {A = Told Slot} z (told 16 0 xs) (told 0 0 (over (marked (back_of t xs f) (mark_byte aside) (mine t xs)) xs))))
    go true e y g z = p
    go false e true g z = p
    go false e false g true = q
    go false e false g false = r (eqb-false _ _ e) (ltb-false _ _ g)

-- after any order the table still belongs to the text
pub order_ready : (t : List ℕ) (xs : List Slot) (f : FragmentNumber) (aside : Bool) → Ready t xs → Ready t (order_of t xs f aside).left
order_ready t xs f aside R =
    order_cases (λ r. Ready t r.left) t xs f aside R R R (λ h g. next_ready t xs R (back_of t xs f) (mark_byte aside) (byte_mark aside))
