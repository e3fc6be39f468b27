-- Writing the lines of a text one after the other: what is written and what the rest gives make the whole.
-- Assumes nothing.
use Prim.Native.Nat.{ℕ, suc, ◌+◌, ◌*◌, ◌≤◌, ◌<◌}
use mathlib.Core.List.{List, [], ◌++◌, append_assoc, append-nil}
use mathlib.Core.Bool.{Bool, true, false}
use mathlib.Core.Path.{◌≡◌, refl, sym, ◌∙◌, ap, subst}
use native.Mathlib.Omega.{arith}
use native.Mathlib.Numerals.{add-one}
use lib.ListN.{length, take, drop, length-append, length-take, length-drop, take-append-drop}
use lib.Seq.{drop-drop, take_at, drop_at}
use Rattle.ascii.specs.Tests.{pick}
use Rattle.pieces.specs.declared.Line.{Line}
use Rattle.places.specs.declared.Counts.{Counts}
use Rattle.places.specs.Counts.{no_counts}
use Rattle.places.specs.Room.{Room}
use Rattle.rules.specs.Rules.{judge_of, start_of}
use Rattle.rows.specs.Text.{cut, piece_at, row, down}
use Rattle.facets.specs.Facets.{is_coord}
use Rattle.gate.specs.Gate.{look_of, check_of}
use Rattle.rows.proofs.Cut.{cut_next, cut_done}
use Rattle.gate.proofs.Runs.{state_at, reached, answered}
use Rattle.slots.specs.declared.Slot.{Slot}
use Rattle.slots.specs.Slots.{no_model}
use Rattle.table.specs.Table.{lines_from, slots_of, loaded_of, one_of, over}
use Rattle.table.specs.Deal.{stays, is_master, tally_of, past_next, counted, share, dealt, output_of}
use Rattle.table.specs.FiveDigits.{FiveDigits}
use Rattle.table.proofs.Plain.{piece_plain}
use Rattle.table.proofs.Recount.{Under, under_start, under_next, past_next_lem, master_fits}
use Rattle.store.specs.Judged.{Rises, Dealable}
use Rattle.store.proofs.Lines.{need_step}

-- ---- after i lines: k slots stand before, q counts those that stay, and at bytes are written
pub record Written (t : List ℕ) (xs : List Slot) (saving : Bool) (e : List ℕ) (i k : ℕ) (past : Bool) (q : Counts) (at : ℕ) (out : List ℕ) : Type 0 where
  pub dealable : Dealable t xs
  pub room : length (output_of saving t xs) ≤ length e
  pub within : 81 * i ≤ length t
  pub size : length out ≡ length e
  pub few : k ≤ i
  pub slots : k + length (slots_of no_model (lines_from t i)) ≡ length (loaded_of t)
  pub shut : (state_at (row t) i).models.past ≡ past
  pub under : Under q (state_at (row t) i).counts
  pub left : at + length (dealt saving xs k past q (cut (drop (81 * i) t))) ≡ length (output_of saving t xs)
  pub front : take at out ++ dealt saving xs k past q (cut (drop (81 * i) t)) ≡ output_of saving t xs
  pub back : drop at out ≡ drop at e

pub written_start : (t : List ℕ) (xs : List Slot) (saving : Bool) (e : List ℕ) → Dealable t xs → length (output_of saving t xs) ≤ length e → Written t xs saving e 0 0 false no_counts 0 e
unfolding output_of state_at start_of
written_start t xs saving e D h =
    record { dealable = D; room = h; within = omega arith; size = refl; few = omega arith; slots = omega arith; shut = refl; under = under_start; left = omega arith; front = refl; back = refl }

-- ---- what is known at a line
module _ (t : List ℕ) (xs : List Slot) (saving : Bool) (e : List ℕ) (i k : ℕ) (past : Bool) (q : Counts) (at : ℕ) (out : List ℕ) (W : Written t xs saving e i k past q at out)
    (h : 81 * i < length t) where
  lines : length t ≡ 81 * (check_of t).good
  lines = ((answered t).granted W.dealable.good).1

  good_line : i < (check_of t).good
  good_line = omega (arith, lines)

  pub whole_line : 81 * i + 81 ≤ length t
  whole_line = omega (arith, good_line, lines)

  pub rises_here : Rises xs k
  rises_here = record { within = omega (arith, W.slots, W.dealable.rises.within); rise = λ a b z l g. W.dealable.rises.rise a b z l (omega (arith, W.slots)); small = λ j g. W.dealable.rises.small j (omega (arith, W.slots)) }

  good_here : judge_of (look_of (down (row t) i) (row t i)) (state_at (row t) i) (row t i) ≡ 0
  good_here = (answered t).good_to i good_line

  pub room_here : 81 * i < 9223372036854775808 → Room q
  room_here big =
      let F = (reached t i (λ j g. (answered t).good_to j (omega (arith, good_line)))).few in
      record {
        remark = omega (arith, F.remark, W.under.remark);
        het = omega (arith, F.het, W.under.het);
        helix = omega (arith, F.helix, W.under.helix);
        sheet = omega (arith, F.sheet, W.under.sheet);
        xform = omega (arith, F.xform, W.under.xform);
        coord = omega (arith, F.coord, W.under.coord);
        ter = omega (arith, F.ter, W.under.ter);
        conect = omega (arith, F.conect, W.under.conect);
        seq = omega (arith, F.seq, W.under.seq);
      }

  module _ (l : Line) (el : l ≡ row t i) (stay : Bool) (es : stay ≡ stays xs k l) where
    pub small_here : is_master l ≡ true → FiveDigits (tally_of q)
    unfolding row
    small_here m =
        master_fits (look_of (down (row t) i) (row t i)) (state_at (row t) i) q (row t i) (piece_plain (piece_at t i)) good_here W.under (rw el at m)

    -- the rest is what this line gives, and the rest after it
    rest : (u : Counts) → u ≡ counted stay past q l
        → dealt saving xs k past q (cut (drop (81 * i) t)) ≡ share saving stay q (piece_at t i) ++ dealt saving xs (k + one_of l) (past_next past l) u (cut (drop (81 * (i + 1)) t))
    unfolding dealt row
    rest u eu = ap (λ (ps : List (List ℕ)). dealt saving xs k past q ps) (cut_next t i h) ∙ rw (eu, es, el)

    pub room_left : at + length (share saving stay q (piece_at t i)) ≤ length out
    room_left =
        let r : length (dealt saving xs k past q (cut (drop (81 * i) t))) ≡ length (share saving stay q (piece_at t i)) + length (dealt saving xs (k + one_of l) (past_next past l) (counted stay past q l) (cut (drop (81 * (i + 1)) t))) =
        ap length (rest (counted stay past q l) refl) ∙ length-append (share saving stay q (piece_at t i)) (dealt saving xs (k + one_of l) (past_next past l) (counted stay past q l) (cut (drop (81 * (i + 1)) t))) in
        omega (arith, r, W.left, W.room, W.size)

    pub written_next : (u : Counts) → u ≡ counted stay past q l → (at' : ℕ) → at' ≡ at + length (share saving stay q (piece_at t i)) → (out' : List ℕ)
        → out' ≡ take at out ++ share saving stay q (piece_at t i) ++ drop (at + length (share saving stay q (piece_at t i))) out
        → Written t xs saving e (i + 1) (k + one_of l) (past_next past l) u at' out'
    unfolding state_at row
    written_next u eu at' ea out' eo =
        record {
          dealable = W.dealable;
          room = W.room;
          within = omega (arith, whole_line);
          size = ap length eo ∙ simp (length-append, length-take, length-drop) (omega (arith, room_left, W.size));
          few = more (is_coord l);
          slots = need_step t i k (length (loaded_of t)) l h el W.slots;
          shut = rw add-one shut_more;
          under = rw (eu, add-one) under_more;
          left = omega (arith, sizes, W.left);
          front = rw (eo, take_at P _ at' (long ∙ sym ea)) (append_assoc (take at out) S D ∙ (ap (λ (r : List ℕ). take at out ++ r) (sym (rest u eu)) ∙ W.front));
          back = rw (eo, drop_at P _ at' (long ∙ sym ea)) (behind ∙ rw ea);
        }
      where
        S : List ℕ
        S = share saving stay q (piece_at t i)

        D : List ℕ
        D = dealt saving xs (k + one_of l) (past_next past l) u (cut (drop (81 * (i + 1)) t))

        P : List ℕ
        P = take at out ++ S

        sizes : length (dealt saving xs k past q (cut (drop (81 * i) t))) ≡ length S + length D
        sizes = ap length (rest u eu) ∙ length-append S D

        long : length P ≡ at + length S
        long = simp (length-append, length-take) (omega (arith, room_left))

        more : (b : Bool) → k + pick b 1 0 ≤ i + 1
        more true = omega (arith, W.few)
        more false = omega (arith, W.few)

        shut_more : (state_at (row t) (suc i)).models.past ≡ past_next past l
        shut_more = past_next_lem (look_of (down (row t) i) (row t i)) (state_at (row t) i) (row t i) (piece_plain (piece_at t i)) good_here ∙ rw (W.shut, el)

        under_more : Under (counted stay past q l) (state_at (row t) (suc i)).counts
        under_more =
            subst (λ (b : Bool). Under (counted stay b q l) (state_at (row t) (suc i)).counts) W.shut
            (rw el (under_next (look_of (down (row t) i) (row t i)) stay q (state_at (row t) i) (row t i) (piece_plain (piece_at t i)) good_here W.under))

        behind : drop (at + length S) out ≡ drop (at + length S) e
        behind = sym (drop-drop (length S) at out) ∙ (ap (λ (r : List ℕ). drop (length S) r) W.back ∙ drop-drop (length S) at e)

pub written_done : (t : List ℕ) (xs : List Slot) (saving : Bool) (e : List ℕ) (i k : ℕ) (past : Bool) (q : Counts) (at : ℕ) (out : List ℕ) → Written t xs saving e i k past q at out
    → length t ≤ 81 * i → out ≡ over (output_of saving t xs) e
unfolding dealt
written_done t xs saving e i k past q at out W h =
    let z : dealt saving xs k past q (cut (drop (81 * i) t)) ≡ [] = ap (λ (ps : List (List ℕ)). dealt saving xs k past q ps) (cut_done t i h) in
    let f : take at out ≡ output_of saving t xs = sym (append-nil (take at out)) ∙ (rw z at W.front) in
    let n : at + 0 ≡ length (output_of saving t xs) = rw z at W.left in
    let m : at ≡ length (output_of saving t xs) = omega arith in
    sym (take-append-drop at out) ∙ rw (f, W.back, m)
