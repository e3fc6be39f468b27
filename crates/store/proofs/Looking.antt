-- One pass over the text: what holds after i good lines, of the text and of the slots for them, and that it holds again after one more.
-- Assumes nothing.
use Prim.Native.Nat.{ℕ, ◌+◌, ◌*◌, ◌≤◌, ◌<◌}
use mathlib.Core.List.{List}
use mathlib.Core.Bool.{Bool, true, false}
use mathlib.Core.Path.{◌≡◌, refl, sym, ◌∙◌}
use native.Mathlib.Omega.{arith}
use borrow.Author.Count.{below_more}
use borrow.Author.Tests.{ltb-true, ltb-false, le-leb}
use lib.Dec.{ltb}
use lib.ListN.{length, get_or}
use Rattle.ascii.specs.Tests.{pick, both}
use Rattle.ascii.proofs.Choice.{both_split}
use Rattle.pieces.specs.declared.Line.{Line}
use Rattle.rules.specs.declared.State.{State}
use Rattle.rows.specs.Text.{piece_at, row, down}
use Rattle.rules.specs.Rules.{next_of, start_of}
use Rattle.gate.specs.Gate.{look_of, number_in}
use Rattle.facets.specs.Facets.{is_coord, is_fence}
use Rattle.serials.specs.declared.Past.{Past}
use Rattle.serials.specs.Search.{serial_of}
use Rattle.gate.proofs.Sofar.{Sofar}
use Rattle.slots.specs.declared.Slot.{Slot}
use Rattle.slots.specs.Slots.{no_model, no_slot}
use Rattle.table.specs.Table.{lines_from, model_next, slots_of, loaded_of, fits, one_of, fits_from}
use Rattle.table.specs.Deal.{stays}
use Rattle.table.proofs.Few.{room, current, Abreast, abreast_start, Onward, onward, small_serial}
use Rattle.table.proofs.Plain.{piece_plain, piece_model}
use Rattle.table.proofs.Paired.{fits_same}
use Rattle.store.specs.Judged.{is_small, rank_of, rank_at, Rises, kept_from, fences_from}
use Rattle.store.proofs.Lines.{need_step, fits_step, kept_step, fences_step}

-- ---- after i good lines: k slots stand before, whether they fit, how many lines stay, and how many are MODEL or ENDMDL; m is the model
pub record Seen (t : List ℕ) (xs : List Slot) (i : ℕ) (p : Past) (s : State) (k m : ℕ) (fit : Bool) (n f : ℕ) : Type 0 where
  pub sofar : Sofar t i p s
  pub abreast : Abreast s
  pub model : m ≡ current s
  pub need : k + length (slots_of no_model (lines_from t i)) ≡ length (loaded_of t)
  pub fitted : fits_from xs 0 no_model (lines_from t 0) ≡ both fit (fits_from xs k m (lines_from t i))
  pub ranks : fit ≡ true → (j : ℕ) → j < k → rank_at xs j ≤ room s
  pub rises : fit ≡ true → k ≤ length xs → Rises xs k
  pub kept : fit ≡ true → k ≤ length xs → n + kept_from xs k (lines_from t i) ≡ kept_from xs 0 (lines_from t 0)
  pub fences : f + fences_from (lines_from t i) ≡ fences_from (lines_from t 0)
  pub few : (n ≤ i) × (f ≤ i) × (k ≤ i)

pub seen_start : (t : List ℕ) (xs : List Slot) (p : Past) (s : State) → Sofar t 0 p s → s ≡ start_of → Seen t xs 0 p s 0 no_model true 0 0
unfolding both start_of
seen_start t xs p s S e =
    record {
      sofar = S;
      abreast = rw e abreast_start;
      model = rw e refl;
      need = omega arith;
      fitted = refl;
      ranks = λ q j h. absurd (omega arith);
      rises = λ q g. record { within = g; rise = λ a b z l g. absurd (omega arith); small = λ j h. absurd (omega arith) };
      kept = λ q g. omega arith;
      fences = omega arith;
      few = (omega arith, omega arith, omega arith);
    }

-- what a good line does
pub seen_onward : (t : List ℕ) (xs : List Slot) (i : ℕ) (p : Past) (s : State) (k m : ℕ) (fit : Bool) (n f : ℕ) → Seen t xs i p s k m fit n f
    → (l : Line) → l ≡ row t i → (j : ℕ) → j ≡ number_in (down (row t) i) s l → j ≡ 0 → (u : State) → u ≡ next_of s l → Onward s u l
unfolding row
seen_onward t xs i p s k m fit n f K l el j ej z u eu =
    rw (eu, el)
    (onward s (look_of (down (row t) i) (row t i)) (row t i) (piece_plain (piece_at t i)) (piece_model (piece_at t i)) (small_serial t i) (rw el at (sym ej ∙ z)) K.abreast)

-- ---- a slot that fits its line
-- its number, where its model and its serial are those of a line
rank_is : (s : Slot) (m x : ℕ) → s.model ≡ m → s.serial.0 ≡ x → m ≤ 9999 → x ≤ 99999 → (is_small s ≡ true) × (rank_of s ≡ 100000 * m + x)
unfolding rank_of both
rank_is s m x em ex hm hx = rw (em, ex, le-leb m 9999 hm, le-leb x 99999 hx) (refl, refl)

current_few : (s : State) → Abreast s → current s ≤ 9999
current_few s A = go s.models.inside
  where
    go : (b : Bool) → pick b s.models.number 0 ≤ 9999
    go true = A.few
    go false = omega arith

module _ (t : List ℕ) (xs : List Slot) (i : ℕ) (p : Past) (s : State) (k m : ℕ) (fit : Bool) (n f : ℕ) (K : Seen t xs i p s k m fit n f)
    (h : 81 * i < length t) (l : Line) (el : l ≡ row t i) (q : Past) (u : State) (S : Sofar t (i + 1) q u) (O : Onward s u l)
    (here : Slot) (eh : here ≡ get_or xs k no_slot) (good : Bool) (eg : good ≡ fits here m l) where
  good_here : good ≡ fits (get_or xs k no_slot) m l
  good_here = rw eh at eg

  -- the slot of a line that has one
  own : is_coord l ≡ true → both fit good ≡ true → (is_small (get_or xs k no_slot) ≡ true) × (rank_at xs k ≡ 100000 * current s + serial_of l)
  own c e =
      let w = fits_same (get_or xs k no_slot) m l c (sym good_here ∙ (both_split fit good e).1) in
      let x : serial_of l ≤ 99999 = rw el (small_serial t i (rw el at c)) in
      rank_is (get_or xs k no_slot) (current s) (serial_of l) (w.2 ∙ K.model) w.1 (current_few s K.abreast) x

  ranks_next : (c : Bool) → is_coord l ≡ c → both fit good ≡ true → (j : ℕ) → j < k + pick c 1 0 → rank_at xs j ≤ room u
  ranks_next false c e j g = omega (arith, K.ranks (both_split fit good e).0 j (omega arith), O.grows)
  ranks_next true c e j g = go (ltb j k) refl
    where
      go : (b : Bool) → ltb j k ≡ b → rank_at xs j ≤ room u
      go true v = omega (arith, K.ranks (both_split fit good e).0 j (ltb-true _ _ v), O.grows)
      go false v = let z : j ≡ k = omega (arith, ltb-false j k v) in rw z (omega (arith, (own c e).1, (O.site c).1))

  rises_next : (c : Bool) → is_coord l ≡ c → both fit good ≡ true → k + pick c 1 0 ≤ length xs → Rises xs (k + pick c 1 0)
  rises_next false c e w =
      let R = K.rises (both_split fit good e).0 (omega arith) in
      record { within = w; rise = λ a b z y g. R.rise a b z y (omega arith); small = λ j g. R.small j (omega arith) }
  rises_next true c e w =
      let R = K.rises (both_split fit good e).0 (omega arith) in
      let o = own c e in
      record {
        within = w;
        rise = λ a b z y g. below_more (λ (j : ℕ). (a : ℕ) → a < j → rank_at xs a < rank_at xs j) k (λ j g' a' y'. R.rise a' j (omega arith) y' g')
            (λ a' y'. omega (arith, K.ranks (both_split fit good e).0 a' y', o.1, (O.site c).0)) b g a y;
        small = λ j g. below_more (λ (j : ℕ). is_small (get_or xs j no_slot) ≡ true) k (λ j g'. R.small j g') o.0 j g;
      }

  pub seen_next : (stay : Bool) → (both fit good ≡ true → Rises xs k → stay ≡ stays xs k l) → (fence : Bool) → fence ≡ is_fence l → (w : ℕ) → w ≡ model_next m l
      → Seen t xs (i + 1) q u (k + one_of l) w (both fit good) (n + pick stay 1 0) (f + pick fence 1 0)
  seen_next stay es fence ef w ew =
      record {
        sofar = S;
        abreast = O.abreast;
        model = ew ∙ rw K.model O.model;
        need = need_step t i k (length (loaded_of t)) l h el K.need;
        fitted = rw ew (fits_step t xs i k m l (fits_from xs 0 no_model (lines_from t 0)) fit good h el good_here K.fitted);
        ranks = ranks_next (is_coord l) refl;
        rises = rises_next (is_coord l) refl;
        kept = λ e g. let d = (both_split fit good e).0 in let v : k ≤ length xs = fewer (is_coord l) g in kept_step t xs i k n (kept_from xs 0 (lines_from t 0)) l stay h el (es e (K.rises d v)) (K.kept d v);
        fences = fences_step t i f (fences_from (lines_from t 0)) l fence h el ef K.fences;
        few = (one n stay K.few.0, one f fence K.few.1, one k (is_coord l) K.few.2);
      }
    where
      one : (x : ℕ) (y : Bool) → x ≤ i → x + pick y 1 0 ≤ i + 1
      one x true g = omega arith
      one x false g = omega arith

      fewer : (c : Bool) → k + pick c 1 0 ≤ length xs → k ≤ length xs
      fewer true g = omega arith
      fewer false g = omega arith
