-- A table just loaded belongs to its text, and all its fragments are in.
-- Assumes nothing.
use Rattle.std.proofs.Common.{Option, Some, None}
use Prim.Native.Nat.{ℕ, ◌+◌}
use mathlib.Core.List.{List, [], ◌∷◌, ◌++◌}
use mathlib.Core.Bool.{Bool, true, false, not}
use mathlib.Core.Path.{◌≡◌, refl, sym, ◌∙◌, ap}
use native.Mathlib.Omega.{arith}
use borrow.Author.Tests.{eq-eqb}
use lib.Dec.{eqb, leb}
use lib.ListN.{length, drop, get_or, length-append}
use lib.Seq.{take_at, append_snoc, get_or-append_seam}
use Rattle.ascii.specs.Tests.{pick, both, either}
use Rattle.ascii.proofs.Choice.{both_join}
use Rattle.coordinate.specs.declared.Position.{Position}
use Rattle.pieces.specs.declared.Line.{Line}
use Rattle.twins.proofs.Self.{equal, integer_self, name_self, residue_self}
use Rattle.gate.specs.Gate.{check_of}
use Rattle.facets.specs.declared.Spot.{Spot}
use Rattle.facets.specs.declared.Spot.TheVariants.{Site, Close}
use Rattle.facets.specs.Facets.{spot_in, is_coord}
use Rattle.slots.specs.declared.Slot.{Slot}
use Rattle.slots.specs.Slots.{mark_in, mark_aside, no_model, no_slot, spot_slot, line_slot, same_position, same_measures, residue_of, same_names, same_slot}
use Rattle.fragments.specs.Fragments.{joins, step_tail, tail_of, mark_of}
use Rattle.table.specs.Table.{over, lines_from, model_next, slots_of, loaded_of, fits, fits_from, mine}
use Rattle.table.proofs.Ready.{Ready}

-- ---- a slot is the same as itself
position_self : (p : Position) → same_position p p ≡ true
unfolding same_position
position_self p = both_join _ _ (integer_self p.x) (both_join _ _ (integer_self p.y) (integer_self p.z))

pub slot_self : (s : Slot) → same_slot s s ≡ true
unfolding same_slot same_names same_measures
slot_self s =
    both_join _ _ (both_join _ _ (equal s.kind) (equal s.serial.0))
    (both_join _ _ (residue_self (residue_of s))
    (both_join _ _
    (both_join _ _ (both_join _ _ (name_self s.name) (equal s.alternate)) (both_join _ _ (name_self s.element) (name_self s.charge)))
    (both_join _ _ (both_join _ _ (position_self s.position) (both_join _ _ (integer_self s.occupancy) (integer_self s.temperature))) (equal s.model))))

-- ---- no slot of a line is aside
spot_in_lem : (p : Option Spot) → (spot_slot p).mark ≡ mark_in
spot_in_lem (Some (Site het a)) = refl
spot_in_lem (Some (Close t)) = refl
spot_in_lem None = refl

pub line_in_lem : (m : ℕ) (l : Line) → (line_slot m l).mark ≡ mark_in
line_in_lem m l = spot_in_lem (spot_in l)

own_fits : (m : ℕ) (l : Line) → both (leb (line_slot m l).mark mark_aside) (same_slot (line_slot m l) (line_slot m l)) ≡ true
own_fits m l = both_join _ _ (rw (line_in_lem m l)) (slot_self (line_slot m l))

-- ---- the slots of the lines fit the lines, whatever stands before and behind them
fresh_fits : (p : List Slot) (m : ℕ) (ls : List Line) (r : List Slot) → fits_from (p ++ (slots_of m ls ++ r)) (length p) m ls ≡ true
unfolding fits_from fits slots_of
fresh_fits p m [] r = refl
fresh_fits p m (l ∷ ls) r = go (is_coord l) (fresh_fits (p ++ (line_slot m l ∷ [])) (model_next m l) ls r) (fresh_fits p (model_next m l) ls r)
  where
    go : (b : Bool) → fits_from ((p ++ (line_slot m l ∷ [])) ++ (slots_of (model_next m l) ls ++ r)) (length (p ++ (line_slot m l ∷ []))) (model_next m l) ls ≡ true
        → fits_from (p ++ (slots_of (model_next m l) ls ++ r)) (length p) (model_next m l) ls ≡ true
        → both
        (pick b (both (leb (get_or (p ++ (pick b (line_slot m l ∷ slots_of (model_next m l) ls) (slots_of (model_next m l) ls) ++ r)) (length p) no_slot).mark mark_aside)
        (same_slot (get_or (p ++ (pick b (line_slot m l ∷ slots_of (model_next m l) ls) (slots_of (model_next m l) ls) ++ r)) (length p) no_slot) (line_slot m l))) true)
        (fits_from (p ++ (pick b (line_slot m l ∷ slots_of (model_next m l) ls) (slots_of (model_next m l) ls) ++ r)) (length p + pick b 1 0) (model_next m l) ls) ≡ true
    go true x y =
        let e : length (p ++ (line_slot m l ∷ [])) ≡ length p + 1 = simp length-append (omega arith) in
        both_join _ _ (rw (get_or-append_seam p (line_slot m l) (slots_of (model_next m l) ls ++ r) no_slot) (own_fits m l)) (rw (e, append_snoc) at x)
    go false x y = let e : length p + 0 ≡ length p = omega arith in both_join _ _ refl (rw e y)

-- ---- marks agree, and are in
agrees : (j : Bool) (m n : ℕ) → m ≡ n → either (not j) (eqb m n) ≡ true
unfolding either
agrees true m n e = eq-eqb m n e
agrees false m n e = refl

fresh_agree : (m : ℕ) (ls : List Line) → ((tail_of (slots_of m ls)).agree ≡ true) × ((tail_of (slots_of m ls)).mark ≡ mark_in)
unfolding tail_of step_tail slots_of
fresh_agree m [] = (refl, refl)
fresh_agree m (l ∷ ls) = go (is_coord l) (slots_of (model_next m l) ls) (fresh_agree (model_next m l) ls)
  where
    go : (b : Bool) (ss : List Slot) → ((tail_of ss).agree ≡ true) × ((tail_of ss).mark ≡ mark_in)
        → ((tail_of (pick b (line_slot m l ∷ ss) ss)).agree ≡ true) × ((tail_of (pick b (line_slot m l ∷ ss) ss)).mark ≡ mark_in)
    go true ss h = (both_join _ _ h.0 (agrees (joins (line_slot m l) (tail_of ss)) _ _ (line_in_lem m l ∙ sym h.1)), line_in_lem m l)
    go false ss h = h

fresh_mark : (b m : ℕ) (ls : List Line) → mark_of b (slots_of m ls) ≡ mark_in
unfolding mark_of slots_of
fresh_mark b m [] = refl
fresh_mark b m (l ∷ ls) = go (is_coord l) (slots_of (model_next m l) ls) (fresh_mark b (model_next m l) ls)
  where
    two : (x : Bool) (n : ℕ) → n ≡ mark_in → pick x (line_slot m l).mark n ≡ mark_in
    two true n e = line_in_lem m l
    two false n e = e

    go : (c : Bool) (ss : List Slot) → mark_of b ss ≡ mark_in → mark_of b (pick c (line_slot m l ∷ ss) ss) ≡ mark_in
    go true ss h = two (eqb (tail_of (line_slot m l ∷ ss)).count b) (mark_of b ss) h
    go false ss h = h

-- ---- a table just loaded
module _ (t : List ℕ) (xs : List Slot) where
  pub fresh_mine : mine t (over (loaded_of t) xs) ≡ loaded_of t
  fresh_mine = take_at (loaded_of t) (drop (length (loaded_of t)) xs) (length (loaded_of t)) refl

  pub fresh_ready : (check_of t).number ≡ 0 → Ready t (over (loaded_of t) xs)
  fresh_ready e =
      record {
        good = e;
        room = simp length-append (omega arith);
        fit = fresh_fits [] no_model (lines_from t 0) (drop (length (loaded_of t)) xs);
        agree = ap (λ (ys : List Slot). (tail_of ys).agree) fresh_mine ∙ (fresh_agree no_model (lines_from t 0)).0;
      }

  pub fresh_in : (b : ℕ) → mark_of b (mine t (over (loaded_of t) xs)) ≡ mark_in
  fresh_in b = ap (λ (ys : List Slot). mark_of b ys) fresh_mine ∙ fresh_mark b no_model (lines_from t 0)
