-- A line is good exactly if each test of it says no. Assumes nothing.
use mathlib.Core.Path.{◌≡◌, refl, sym}
use mathlib.Core.Bool.{Bool, true, false}
use Prim.Native.Nat.{ℕ, ◌<◌}
use native.Mathlib.Omega.{arith}
use Rattle.columns.specs.declared.Column.{Column}
use Rattle.ascii.specs.Tests.{pick, either}
use Rattle.kinds.specs.declared.Kind.{Kind}
use Rattle.line.specs.declared.Record.{Record}
use Rattle.pieces.specs.declared.Line.TheVariants.{Bad, Wrong, Carried, Typed}
use Rattle.rules.specs.declared.Looked.{Looked}
use Rattle.rules.specs.declared.State.{State}
use Rattle.places.specs.Places.{place_bad, fence_bad}
use Rattle.facets.specs.Facets.{record_kind, spot_of, bond_of, fold_of, total_of, fence_of}
use Rattle.rules.specs.Rules.{model_bad, serial_bad, run_bad, bond_bad, unfinished, fold_bad, count_bad, typed_bad, judge_of}
use Rattle.refusals.specs.declared.Refusal.{Refusal}
use Rattle.refusals.proofs.Positive.{number_positive}

-- a choice of a number above 0 and a rest is 0 exactly if the test says no and the rest is 0
pub pick_no : (b : Bool) (n m : ℕ) → 0 < n → pick b n m ≡ 0 → b ≡ false
pick_no true n m h e = absurd (omega arith)
pick_no false n m h e = refl

pub pick_rest : (b : Bool) (n m : ℕ) → 0 < n → pick b n m ≡ 0 → m ≡ 0
pick_rest true n m h e = absurd (omega arith)
pick_rest false n m h e = e

-- two tests with one number
pub pick_either : (a b : Bool) (n m : ℕ) → pick (either a b) n m ≡ pick a n (pick b n m)
unfolding either
pick_either true b n m = refl
pick_either false b n m = refl

-- ---- typed lines
-- with one test of the place
pub typed_tests : (look : Looked) (s : State) (r : Record)
    → typed_bad look s r
    ≡ pick (either (place_bad s.place (record_kind r)) (fence_bad s.place s.models (record_kind r))) 5
    (pick (model_bad s.models (fence_of r)) 22
    (pick (serial_bad s.last (spot_of r)) 7
    (pick (run_bad s.run (spot_of r)) 8
    (pick look.twin 21
    (pick (bond_bad look.known s.bond (bond_of r)) 9
    (pick (fold_bad s.helix s.ladder (fold_of r)) 10
    (pick (count_bad s.counts (total_of r)) 11 0)))))))
unfolding typed_bad
typed_tests look s r = sym (pick_either _ _ _ _)

pub record Good (look : Looked) (s : State) (r : Record) : Type 0 where
  pub place : place_bad s.place (record_kind r) ≡ false
  pub fence : fence_bad s.place s.models (record_kind r) ≡ false
  pub model : model_bad s.models (fence_of r) ≡ false
  pub serial : serial_bad s.last (spot_of r) ≡ false
  pub run : run_bad s.run (spot_of r) ≡ false
  pub twin : look.twin ≡ false
  pub bond : bond_bad look.known s.bond (bond_of r) ≡ false
  pub fold : fold_bad s.helix s.ladder (fold_of r) ≡ false
  pub count : count_bad s.counts (total_of r) ≡ false

pub typed_good : (look : Looked) (s : State) (r : Record) → typed_bad look s r ≡ 0 → Good look s r
unfolding typed_bad
typed_good look s r e5 =
    let e5' = pick_rest (place_bad s.place (record_kind r)) 5 _ (omega arith) e5 in
    let e22 = pick_rest (fence_bad s.place s.models (record_kind r)) 5 _ (omega arith) e5' in
    let e7 = pick_rest (model_bad s.models (fence_of r)) 22 _ (omega arith) e22 in
    let e8 = pick_rest (serial_bad s.last (spot_of r)) 7 _ (omega arith) e7 in
    let e21 = pick_rest (run_bad s.run (spot_of r)) 8 _ (omega arith) e8 in
    let e9 = pick_rest look.twin 21 _ (omega arith) e21 in
    let e10 = pick_rest (bond_bad look.known s.bond (bond_of r)) 9 _ (omega arith) e9 in
    let e11 = pick_rest (fold_bad s.helix s.ladder (fold_of r)) 10 _ (omega arith) e10 in
    record {
      place = pick_no (place_bad s.place (record_kind r)) 5 _ (omega arith) e5;
      fence = pick_no (fence_bad s.place s.models (record_kind r)) 5 _ (omega arith) e5';
      model = pick_no (model_bad s.models (fence_of r)) 22 _ (omega arith) e22;
      serial = pick_no (serial_bad s.last (spot_of r)) 7 _ (omega arith) e7;
      run = pick_no (run_bad s.run (spot_of r)) 8 _ (omega arith) e8;
      twin = pick_no look.twin 21 _ (omega arith) e21;
      bond = pick_no (bond_bad look.known s.bond (bond_of r)) 9 _ (omega arith) e9;
      fold = pick_no (fold_bad s.helix s.ladder (fold_of r)) 10 _ (omega arith) e10;
      count = pick_no (count_bad s.counts (total_of r)) 11 _ (omega arith) e11;
    }

pub good_typed : (look : Looked) (s : State) (r : Record) → Good look s r → typed_bad look s r ≡ 0
unfolding typed_bad
good_typed look s r g = rw (g.place, g.fence, g.model, g.serial, g.run, g.twin, g.bond, g.fold, g.count)

-- ---- any line
pub judge_typed : (look : Looked) (s : State) (r : Record) → judge_of look s (Typed r) ≡ 0 → Good look s r
unfolding judge_of
judge_typed look s r e = typed_good look s r e

pub judge_carried : (look : Looked) (s : State) (k : Kind) → judge_of look s (Carried k) ≡ 0
    → (place_bad s.place k ≡ false) × (unfinished s.ladder ≡ false) × (fence_bad s.place s.models k ≡ false)
unfolding judge_of
judge_carried look s k e =
    let e' = pick_rest (place_bad s.place k) 5 _ (omega arith) e in (
      pick_no (place_bad s.place k) 5 _ (omega arith) e,
      pick_no (unfinished s.ladder) 10 _ (omega arith) (pick_rest (fence_bad s.place s.models k) 5 _ (omega arith) e'),
      pick_no (fence_bad s.place s.models k) 5 _ (omega arith) e',
    )

pub judge_bad : (look : Looked) (s : State) (r : Refusal) → judge_of look s (Bad r) ≡ 0 → ⊥
unfolding judge_of
judge_bad look s r e = omega (arith, number_positive r)

pub judge_wrong : (look : Looked) (s : State) (k : Kind) (column : Column) → judge_of look s (Wrong k column) ≡ 0 → ⊥
unfolding judge_of
judge_wrong look s k column e =
    let z : ◌≡◌ {A = ℕ} 6 0 = pick_rest (fence_bad s.place s.models k) 5 6 (omega arith) (pick_rest (place_bad s.place k) 5 _ (omega arith) e) in
    omega arith
