-- A text that is accepted has at most 100,000 ATOM, HETATM and TER lines a model: each has a higher serial than those before it in its model, and a serial
-- has five digits; and it has at most 9,999 models.
-- Assumes nothing.
use Prim.Native.Nat.{ℕ, zero, suc, ◌+◌, ◌*◌, ◌≤◌, ◌<◌}
use mathlib.Core.List.{List, [], ◌∷◌}
use mathlib.Core.Bool.{Bool, true, false, not, true≢false}
use mathlib.Core.Path.{◌≡◌, refl, sym, ◌∙◌, ap}
use native.Mathlib.Omega.{arith}
use borrow.Author.Tests.{leb-false, eqb-true}
use lib.ListN.{length, take, length-take}
use Rattle.ascii.specs.Tests.{pick, both}
use Rattle.ascii.proofs.Choice.{never, picks, not_false}
use native.Mathlib.Nat.{le_refl}
use Rattle.slots.specs.Slots.{no_model}
use Rattle.numbers.specs.Number.{number_of}
use Rattle.line.specs.declared.Record.TheVariants.{Coordinate, Ter, Helix, Sheet, Conect, Master, End, Model, Endmdl, Cell, Transform}
use Rattle.model.specs.declared.Model.{Model as ModelOf}
use Rattle.pieces.specs.declared.Line.{Line}
use Rattle.pieces.specs.declared.Line.TheVariants.{Bad, Wrong, Carried, Typed}
use Rattle.rows.specs.Text.{piece_at, row}
use Rattle.facets.specs.Facets.{is_coord}
use Rattle.places.specs.declared.Models.{Models}
use Rattle.places.specs.Places.{fence_bad}
use Rattle.rules.specs.declared.Looked.{Looked}
use Rattle.rules.specs.declared.State.{State}
use Rattle.rules.specs.Rules.{judge_of, next_of, carried_next, typed_next, start_of}
use Rattle.rules.proofs.Laws.{judge_typed, judge_bad, judge_wrong}
use Rattle.serials.specs.Search.{serial_of}
use Rattle.serials.proofs.Rows.{coord_serial}
use Rattle.gate.specs.Gate.{check_of}
use Rattle.gate.proofs.Runs.{state_at, GoodTo, reached, answered}
use Rattle.slots.specs.declared.Slot.{Slot}
use Rattle.slots.proofs.Returns.{whole_high}
use Rattle.fragments.specs.Fragments.{joins, step_tail, tail_of}
use Rattle.table.specs.Table.{model_next, loaded_of, one_of, mine, fragments}
use Rattle.table.specs.Promise.{slots_to}
use Rattle.table.proofs.Plain.{Plain, piece_plain, PlainFence, piece_model}
use Rattle.table.proofs.Ready.{Ready}
use Rattle.table.proofs.Rows.{slots_none, slots_more, slots_all}

-- ---- the last serial, and the last model
-- what is read is small
pub small_serial : (t : List ℕ) (j : ℕ) → is_coord (row t j) ≡ true → serial_of (row t j) ≤ 99999
small_serial t j e = rw (coord_serial t j e) (whole_high 1 99999 (number_of (take 80 (piece_at t j)) 6 5 0) 6)

-- how many slots the lines so far may have: 100,000 for each model that is shut, and in the open one as many as its last serial
abbrev pub room : State → ℕ
room s = 100000 * s.models.number + pick (both s.models.past (not s.models.inside)) 100000 s.last.0

-- there are no more slots than that, and the numbers are small
pub record Climbed (t : List ℕ) (n : ℕ) (s : State) : Type 0 where
  pub slots : slots_to t n ≤ room s
  pub small : s.last.0 ≤ 99999
  pub few : s.models.number ≤ 9999

-- ---- a good line more
-- a line without a slot that leaves models and serials
climbs_plain : (t : List ℕ) (n : ℕ) (s u : State) → Climbed t n s → 81 * n < length t → is_coord (row t n) ≡ false → u.models ≡ s.models → u.last ≡ s.last → Climbed t (suc n) u
climbs_plain t n s u C h c em el =
    record {
      slots = rw (em, el) (omega (arith, slots_more t n h, ap (λ (b : Bool). pick {A = ℕ} b 1 0) c, C.slots));
      small = rw el C.small;
      few = rw em C.few;
    }

-- a line with a slot, whose serial is above the last
room_site : (m : Models) (a b : ℕ) → both m.past (not m.inside) ≡ false → a < b
    → 100000 * m.number + pick (both m.past (not m.inside)) 100000 a + 1 ≤ 100000 * m.number + pick (both m.past (not m.inside)) 100000 b
room_site m a b f h = rw f (omega arith)

climbs_site : (t : List ℕ) (n : ℕ) (s u : State) → Climbed t n s → 81 * n < length t → is_coord (row t n) ≡ true → both s.models.past (not s.models.inside) ≡ false
    → s.last.0 < serial_of (row t n) → u.models ≡ s.models → u.last.0 ≡ serial_of (row t n) → Climbed t (suc n) u
climbs_site t n s u C h c f r em el =
    record {
      slots = rw (em, el) (omega (arith, slots_more t n h, ap (λ (b : Bool). pick {A = ℕ} b 1 0) c, C.slots, room_site s.models s.last.0 (serial_of (row t n)) f r));
      small = rw el (small_serial t n c);
      few = rw em C.few;
    }

-- MODEL: one more model
room_most : (m : Models) (a : ℕ) → a ≤ 99999 → 100000 * m.number + pick (both m.past (not m.inside)) 100000 a ≤ 100000 * (m.number + 1)
room_most m a h = picks (λ (x : ℕ). 100000 * m.number + x ≤ 100000 * (m.number + 1)) (both m.past (not m.inside)) 100000 a (λ _. omega arith) (λ _. omega arith)

climbs_model : (t : List ℕ) (n : ℕ) (s : State) (m : ModelOf) → Climbed t n s → 81 * n < length t → row t n ≡ Typed (Model m) → m.number ≡ s.models.number + 1 → m.number ≤ 9999
    → Climbed t (suc n) (typed_next s (Model m))
unfolding typed_next
climbs_model t n s m C h e q k =
    record {
      slots = omega (arith, slots_more t n h, ap (λ (l : Line). one_of l) e, C.slots, room_most s.models s.last.0 C.small, q);
      small = omega arith;
      few = k;
    }

climbs_endmdl : (t : List ℕ) (n : ℕ) (s : State) → Climbed t n s → 81 * n < length t → row t n ≡ Typed Endmdl → Climbed t (suc n) (typed_next s Endmdl)
unfolding typed_next both
climbs_endmdl t n s C h e =
    record {
      slots = omega (arith, slots_more t n h, ap (λ (l : Line). one_of l) e, C.slots, room_most s.models s.last.0 C.small);
      small = omega arith;
      few = C.few;
    }

climbs : (t : List ℕ) (n : ℕ) (s : State) (look : Looked) (l : Line) → row t n ≡ l → Plain l → PlainFence l → judge_of look s l ≡ 0 → 81 * n < length t → Climbed t n s → Climbed t (suc n) (next_of s l)
unfolding next_of carried_next typed_next judge_of fence_bad
climbs t n s look (Bad m) e p w j h C = absurd (judge_bad look s m j)
climbs t n s look (Wrong k column) e p w j h C = absurd (judge_wrong look s k column j)
climbs t n s look (Carried k) e p w j h C = climbs_plain t n s _ C h (ap is_coord e) refl refl
climbs t n s look (Typed (Coordinate true a)) e p w j h C =
    let g = judge_typed look s (Coordinate true a) j in
    climbs_site t n s _ C h (ap is_coord e) g.fence (rw e (leb-false _ _ g.serial)) refl (sym (ap serial_of e))
climbs t n s look (Typed (Coordinate false a)) e p w j h C =
    let g = judge_typed look s (Coordinate false a) j in
    climbs_site t n s _ C h (ap is_coord e) g.fence (rw e (leb-false _ _ g.serial)) refl (sym (ap serial_of e))
climbs t n s look (Typed (Ter x)) e p w j h C =
    let g = judge_typed look s (Ter x) j in
    climbs_site t n s _ C h (ap is_coord e) g.fence (rw e (leb-false _ _ g.serial)) refl (sym (ap serial_of e))
climbs t n s look (Typed (Helix x)) e p w j h C = climbs_plain t n s _ C h (ap is_coord e) refl refl
climbs t n s look (Typed (Sheet x)) e p w j h C = climbs_plain t n s _ C h (ap is_coord e) refl refl
climbs t n s look (Typed (Conect x)) e p w j h C = climbs_plain t n s _ C h (ap is_coord e) refl refl
climbs t n s look (Typed (Master x)) e p w j h C = climbs_plain t n s _ C h (ap is_coord e) refl refl
climbs t n s look (Typed End) e p w j h C = climbs_plain t n s _ C h (ap is_coord e) refl refl
climbs t n s look (Typed (Model m)) e p w j h C = climbs_model t n s m C h e (eqb-true _ _ (not_false _ (judge_typed look s (Model m) j).model)) w
climbs t n s look (Typed (Cell x)) e p w j h C = climbs_plain t n s _ C h (ap is_coord e) refl refl
climbs t n s look (Typed (Transform scale axis x)) e p w j h C = climbs_plain t n s _ C h (ap is_coord e) refl refl
climbs t n s look (Typed Endmdl) e p w j h C = climbs_endmdl t n s C h e

-- ---- after n good lines
pub climbed : (t : List ℕ) (n : ℕ) → GoodTo (row t) n → Climbed t n (state_at (row t) n)
unfolding state_at start_of row
climbed t zero g = record { slots = omega (arith, slots_none t); small = omega arith; few = omega arith }
climbed t (suc n) g =
    let w : 81 * suc n ≤ length t = (reached t (suc n) g).within in
    climbs t n (state_at (row t) n) _ (row t n) refl (piece_plain (piece_at t n)) (piece_model (piece_at t n)) (g n (omega arith)) (omega arith) (climbed t n (λ j h. g j (omega arith)))

-- ---- slots by model and serial
-- the model that the lines so far leave
abbrev pub current : State → ℕ
current s = pick s.models.inside s.models.number no_model

-- in which the lines so far stand, or there is none yet
pub record Abreast (s : State) : Type 0 where
  pub outside : s.models.inside ≡ false → s.models.past ≡ false → s.models.number ≡ 0
  pub small : s.last.0 ≤ 99999
  pub few : s.models.number ≤ 9999

pub abreast_start : Abreast start_of
unfolding start_of
abreast_start = record { outside = λ e f. refl; small = omega arith; few = omega arith }

-- what a good line does: the room never falls, and a line with a slot takes the next place in it
pub record Onward (s u : State) (l : Line) : Type 0 where
  pub model : model_next (current s) l ≡ current u
  pub grows : room s ≤ room u
  pub site : is_coord l ≡ true → (room s < 100000 * current s + serial_of l) × (100000 * current s + serial_of l ≡ room u)
  pub abreast : Abreast u

onward_plain : (s u : State) (l : Line) → Abreast s → is_coord l ≡ false → model_next (current s) l ≡ current s → u.models ≡ s.models → u.last ≡ s.last → Onward s u l
onward_plain s u l A c e em el =
    record {
      model = e ∙ rw em;
      grows = rw (em, el) (le_refl _);
      site = λ x. never (sym c ∙ x);
      abreast = record { outside = rw em A.outside; small = rw el A.small; few = rw em A.few };
    }

-- outside of models, before the first, there is one room; in a model that of its number
current_here : (m : Models) → both m.past (not m.inside) ≡ false → (m.inside ≡ false → m.past ≡ false → m.number ≡ 0) → pick m.inside m.number 0 ≡ m.number
unfolding both
current_here m f o = go m.inside refl m.past refl
  where
    go : (x : Bool) → m.inside ≡ x → (y : Bool) → m.past ≡ y → pick x m.number 0 ≡ m.number
    go true u y v = refl
    go false u true v = absurd (true≢false (rw (u, v) at f))
    go false u false v = sym (o u v)

onward_site : (s u : State) (l : Line) → Abreast s → is_coord l ≡ true → serial_of l ≤ 99999 → both s.models.past (not s.models.inside) ≡ false → s.last.0 < serial_of l
    → model_next (current s) l ≡ current s → u.models ≡ s.models → u.last.0 ≡ serial_of l → Onward s u l
onward_site s u l A c k f r e em el =
    let q : current s ≡ s.models.number = current_here s.models f A.outside in
    record {
      model = e ∙ rw em;
      grows = rw (em, el, f) (omega arith);
      site = λ x. (rw (q, f) (omega arith), rw (q, em, el, f));
      abreast = record { outside = rw em A.outside; small = rw el k; few = rw em A.few };
    }

-- ENDMDL leaves the model's room whole
shut_grows : (m : Models) (a : ℕ) → a ≤ 99999 → 100000 * m.number + pick (both m.past (not m.inside)) 100000 a ≤ 100000 * m.number + 100000
shut_grows m a h = omega (arith, room_most m a h)

-- a good line
pub onward : (s : State) (look : Looked) (l : Line) → Plain l → PlainFence l → (is_coord l ≡ true → serial_of l ≤ 99999) → judge_of look s l ≡ 0 → Abreast s → Onward s (next_of s l) l
unfolding next_of carried_next typed_next judge_of fence_bad both
onward s look (Bad n) p w k j A = absurd (judge_bad look s n j)
onward s look (Wrong x column) p w k j A = absurd (judge_wrong look s x column j)
onward s look (Carried x) p w k j A = onward_plain s _ (Carried x) A refl refl refl refl
onward s look (Typed (Coordinate true a)) p w k j A =
    let g = judge_typed look s (Coordinate true a) j in
    onward_site s _ (Typed (Coordinate true a)) A refl (k refl) g.fence (leb-false _ _ g.serial) refl refl refl
onward s look (Typed (Coordinate false a)) p w k j A =
    let g = judge_typed look s (Coordinate false a) j in
    onward_site s _ (Typed (Coordinate false a)) A refl (k refl) g.fence (leb-false _ _ g.serial) refl refl refl
onward s look (Typed (Ter x)) p w k j A =
    let g = judge_typed look s (Ter x) j in
    onward_site s _ (Typed (Ter x)) A refl (k refl) g.fence (leb-false _ _ g.serial) refl refl refl
onward s look (Typed (Helix x)) p w k j A = onward_plain s _ _ A refl refl refl refl
onward s look (Typed (Sheet x)) p w k j A = onward_plain s _ _ A refl refl refl refl
onward s look (Typed (Conect x)) p w k j A = onward_plain s _ _ A refl refl refl refl
onward s look (Typed (Master x)) p w k j A = onward_plain s _ _ A refl refl refl refl
onward s look (Typed End) p w k j A = onward_plain s _ _ A refl refl refl refl
onward s look (Typed (Model m)) p w k j A =
    let n : m.number ≡ s.models.number + 1 = eqb-true _ _ (not_false _ (judge_typed look s (Model m) j).model) in
    record {
      model = refl;
      grows = omega (arith, room_most s.models s.last.0 A.small, n);
      site = λ x. never x;
      abreast = record { outside = λ e. absurd (true≢false e); small = omega arith; few = w };
    }
onward s look (Typed (Cell x)) p w k j A = onward_plain s _ _ A refl refl refl refl
onward s look (Typed (Transform scale axis x)) p w k j A = onward_plain s _ _ A refl refl refl refl
onward s look (Typed Endmdl) p w k j A =
    record {
      model = refl;
      grows = shut_grows s.models s.last.0 A.small;
      site = λ x. never x;
      abreast = record { outside = λ e f. absurd (true≢false f); small = omega arith; few = A.few };
    }

-- ---- all lines of a text that is accepted: fewer than 2 to the power of 30 slots
pub few_slots : (t : List ℕ) → (check_of t).number ≡ 0 → length (loaded_of t) ≤ 1000000000
few_slots t e =
    let A = answered t in
    let N = climbed t (check_of t).good A.good_to in
    let s : State = state_at (row t) (check_of t).good in
    let z : length t ≡ 81 * (check_of t).good = (A.granted e).1 in
    omega (arith, slots_all t (check_of t).good (omega arith), N.slots, N.few, room_most s.models s.last.0 N.small)

-- ---- no more fragments than slots
pub count_slots : (ss : List Slot) → (tail_of ss).count ≤ length ss
unfolding tail_of step_tail
count_slots [] = omega arith
count_slots (s ∷ ss) = go (joins s (tail_of ss)) (count_slots ss)
  where
    go : (b : Bool) → (tail_of ss).count ≤ length ss → pick b (tail_of ss).count ((tail_of ss).count + 1) ≤ suc (length ss)
    go true h = omega arith
    go false h = omega arith

-- so a text that is accepted has no more fragments
pub few_fragments : (t : List ℕ) (xs : List Slot) → Ready t xs → fragments t xs ≤ 1000000000
few_fragments t xs R =
    let size : length (mine t xs) ≤ length (loaded_of t) = simp length-take (omega arith) in
    omega (arith, count_slots (mine t xs), few_slots t R.good)
