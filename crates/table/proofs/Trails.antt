-- A good line of a text is good among the lines kept: the state that they leave is never ahead of the state that all lines leave.
-- Assumes nothing.
use Rattle.std.proofs.Common.{Option, Some, None}
use Prim.Native.Nat.{ℕ, ◌≤◌, ◌<◌}
use mathlib.Core.Bool.{Bool, true, false, not, true≢false}
use mathlib.Core.Path.{◌≡◌, refl, sym, ◌∙◌}
use mathlib.Core.Logic.{◌⊎◌, inl, inr}
use native.Mathlib.Omega.{arith}
use native.Mathlib.Nat.{lt_of_le_of_lt, le_trans}
use borrow.Author.Tests.{leb-false, lt-leb, ltb-false, le-ltb, le-leb, eq-eqb, ne_eqb, eqb-true, eqb-false}
use lib.Dec.{eqb}
use Rattle.fields.specs.declared.Serial.{Serial}
use Rattle.facets.specs.declared.Spot.{Spot}
use Rattle.facets.specs.declared.Spot.TheVariants.{Site, Close}
use Rattle.rules.specs.declared.Looked.{Looked}
use Rattle.ascii.specs.Tests.{pick, both, either}
use Rattle.ascii.proofs.Choice.{never, either_none}
use Rattle.kinds.proofs.First.{same_name}
use Rattle.kinds.specs.declared.Kind.{Kind}
use Rattle.kinds.specs.declared.Kind.TheVariants as kind
use Rattle.kinds.specs.Kinds.{row_of, is}
use Rattle.conect.specs.declared.Conect.{Conect as ConectOf}
use Rattle.master.specs.declared.Tally.{Tally}
use Rattle.line.specs.declared.Record.{Record}
use Rattle.line.specs.declared.Record.TheVariants.{Master}
use Rattle.pieces.specs.declared.Line.TheVariants.{Carried, Typed}
use Rattle.places.specs.declared.Counts.{Counts}
use Rattle.places.specs.declared.Models.{Models}
use Rattle.rules.specs.declared.State.{State}
use Rattle.places.specs.Places.{place_bad, fence_bad}
use Rattle.places.specs.Counts.{same_counts}
use Rattle.rules.specs.Rules.{serial_bad, run_bad, bond_bad, count_bad, judge_of}
use Rattle.facets.specs.Facets.{record_kind, spot_of, bond_of, total_of}
use Rattle.places.proofs.Laws.{place_low, place_high}
use Rattle.rules.proofs.Laws.{Good, good_typed}
use Rattle.serials.specs.Search.{Before}
use Rattle.table.specs.Deal.{tally_of}
use Rattle.table.proofs.Ahead.{not_before}
use Rattle.table.proofs.Paired.{no_both}

-- the place k is that of s; or s is among the coordinate or CONECT lines, and k past HEADER and not ahead
abbrev pub Behind : ℕ → ℕ → Type 0
Behind k s = (k ≡ s) ⊎ ((1 ≤ k) × (k ≤ s) × (18 ≤ s) × (s ≤ 19))

-- s over all lines, k over the lines kept
pub record Trails (s k : State) : Type 0 where
  pub place : Behind k.place s.place
  pub models : k.models ≡ s.models
  pub last : k.last.0 ≤ s.last.0
  pub bond : k.bond.0 ≤ s.bond.0
  pub helix : k.helix ≡ s.helix
  pub ladder : k.ladder ≡ s.ladder

-- ---- places
pub behind_le : (k s : ℕ) → Behind k s → k ≤ s
behind_le k s (inl e) = omega arith
behind_le k s (inr h) = h.1

pub behind_one : (k s : ℕ) → Behind k s → 1 ≤ s → 1 ≤ k
behind_one k s (inl e) h = omega arith
behind_one k s (inr g) h = g.0

pub behind_same : (k s : ℕ) → Behind k s → 19 < s → k ≡ s
behind_same k s (inl e) h = e
behind_same k s (inr g) h = absurd (omega (arith, g.3))

-- before the coordinate lines nothing was dropped
pub behind_before : (k s : ℕ) → Behind k s → Before s → k ≡ s
behind_before k s (inl e) b = e
behind_before k s (inr g) b = absurd (not_before s g.2 (omega (arith, g.3)) b)

place_ok : (p : ℕ) (k : Kind) → (row_of k).low ≤ p → p ≤ (row_of k).high → place_bad p k ≡ false
unfolding place_bad both
place_ok p k h g = rw (le-leb (row_of k).low p h, le-leb p (row_of k).high g)

-- a kind that may follow every place from HEADER's on
pub place_behind : (k s : ℕ) (x : Kind) → (row_of x).low ≡ 1 → Behind k s → place_bad s x ≡ false → place_bad k x ≡ false
place_behind k s x one b e =
    let h : 1 ≤ s = omega (arith, place_low s x e) in
    let g : 1 ≤ k = behind_one k s b h in
    place_ok k x (omega arith) (le_trans (behind_le k s b) (place_high s x e))

-- ---- models
-- MODEL after no coordinate line that stands in none: nor is there one among the lines kept
begun_behind : (k s : ℕ) (past : Bool) → Behind k s → s ≤ 18 → both (eqb s 18) (not past) ≡ false → both (eqb k 18) (not past) ≡ false
unfolding both
begun_behind k s true b h e = no_both (eqb k 18)
begun_behind k s false b h e = rw (ne_eqb k 18 (λ q. go b q (eqb s 18) refl e))
  where
    go : Behind k s → k ≡ 18 → (x : Bool) → eqb s 18 ≡ x → both x true ≡ false → ⊥
    go b q true u e = true≢false e
    go (inl p) q false u e = eqb-false s 18 u (sym p ∙ q)
    go (inr g) q false u e = eqb-false s 18 u (omega (arith, g.1, g.2))

pub fence_behind : (k s : ℕ) (m : Models) (x : Kind) → Behind k s → place_bad s x ≡ false → fence_bad s m x ≡ false → fence_bad k m x ≡ false
unfolding fence_bad either
fence_behind k s m x b p = go (is kind.Model x) refl
  where
    go : (y : Bool) → is kind.Model x ≡ y
        → pick y (either m.inside (both (eqb s 18) (not m.past))) (pick (is kind.Endmdl x) (not m.inside) (pick (row_of x).slot (both m.past (not m.inside)) m.inside)) ≡ false
        → pick y (either m.inside (both (eqb k 18) (not m.past))) (pick (is kind.Endmdl x) (not m.inside) (pick (row_of x).slot (both m.past (not m.inside)) m.inside)) ≡ false
    go true u e =
        let h = either_none m.inside (both (eqb s 18) (not m.past)) e in
        let q : kind.Model ≡ x = same_name kind.Model x (eqb-true _ _ u) in
        let top : s ≤ 18 = rw (← q) at (place_high s x p) in
        rw h.0 (begun_behind k s m.past b top h.1)
    go false u e = e

-- ---- serials
serial_trails : (a b : Serial) (p : Option Spot) → a.0 ≤ b.0 → serial_bad b p ≡ false → serial_bad a p ≡ false
serial_trails a b (Some (Site het x)) h e = lt-leb _ _ (lt_of_le_of_lt h (leb-false _ _ e))
serial_trails a b (Some (Close t)) h e = lt-leb _ _ (lt_of_le_of_lt h (leb-false _ _ e))
serial_trails a b None h e = refl

-- a CONECT line's serial is not below the last one's, and its numbers are known
pub bond_split : (known : Bool) (last : Serial) (c : ConectOf) → bond_bad known last (Some c) ≡ false → (known ≡ true) × (last.0 ≤ c.serial.0)
unfolding either
bond_split true last c e = (refl, ltb-false _ _ e)
bond_split false last c e = never (sym e)

pub bond_join : (known : Bool) (last : Serial) (c : ConectOf) → known ≡ true → last.0 ≤ c.serial.0 → bond_bad known last (Some c) ≡ false
unfolding either
bond_join known last c e h = rw (e, le-ltb c.serial.0 last.0 h)

-- ---- a typed line among the kept ones, where its place, its run, its bonds and its counts are right
pub good_trails : (known v : Looked) (s k : State) (r : Record) → Trails s k → Good known s r → place_bad k.place (record_kind r) ≡ false
    → run_bad k.run (spot_of r) ≡ false → v.twin ≡ false → bond_bad v.known k.bond (bond_of r) ≡ false → count_bad k.counts (total_of r) ≡ false → judge_of v k (Typed r) ≡ 0
unfolding judge_of
good_trails known v s k r T g p run twin bond count =
    good_typed v k r
    (record {
      place = p;
      fence = rw T.models (fence_behind k.place s.place s.models (record_kind r) T.place g.place g.fence);
      model = rw T.models g.model;
      serial = serial_trails k.last s.last (spot_of r) T.last g.serial;
      run = run;
      twin = twin;
      bond = bond;
      fold = rw (T.helix, T.ladder) g.fold;
      count = count;
    })

-- MASTER counted again
same_tally : (q : Counts) → same_counts (tally_of q) q ≡ true
unfolding same_counts both
same_tally q =
    rw (eq-eqb q.remark q.remark refl, eq-eqb q.het q.het refl, eq-eqb q.helix q.helix refl, eq-eqb q.sheet q.sheet refl, eq-eqb q.xform q.xform refl, eq-eqb q.coord q.coord refl, eq-eqb q.ter q.ter refl, eq-eqb q.conect q.conect refl, eq-eqb q.seq q.seq refl)

pub master_trails : (known v : Looked) (s k : State) (t : Tally) → Trails s k → Good known s (Master t) → k.run.atom ≡ false → v.twin ≡ false
    → judge_of v k (Typed (Master (tally_of k.counts))) ≡ 0
unfolding judge_of
master_trails known v s k t T g a w =
    good_typed v k (Master (tally_of k.counts))
    (record {
      place = place_behind k.place s.place kind.Master refl T.place g.place;
      fence = rw T.models (fence_behind k.place s.place s.models kind.Master T.place g.place g.fence);
      model = refl;
      serial = refl;
      run = a;
      twin = w;
      bond = refl;
      fold = rw T.ladder g.fold;
      count = rw (same_tally k.counts);
    })

-- a carried line among the kept ones
pub carried_trails : (known v : Looked) (s k : State) (x : Kind) → k.place ≡ s.place → k.models ≡ s.models → k.ladder ≡ s.ladder → judge_of known s (Carried x) ≡ 0 → judge_of v k (Carried x) ≡ 0
unfolding judge_of
carried_trails known v s k x p m d e = rw (p, m, d) e
