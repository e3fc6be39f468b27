-- The state over all lines, s, and the state over the lines kept, k, go along together: before the coordinate lines, over them, and after them.
-- Assumes nothing.
use Prim.Native.Nat.{ℕ, ◌+◌, ◌≤◌}
use mathlib.Core.List.{List, ◌∷◌}
use mathlib.Core.Bool.{Bool, true, false, not}
use mathlib.Core.Path.{◌≡◌, refl, sym, ◌∙◌, ap}
use mathlib.Core.Logic.{inl, inr}
use native.Mathlib.Omega.{arith}
use native.Mathlib.Nat.{le_trans, le_of_lt, le_refl}
use borrow.Author.Tests.{leb-false, not-false}
use Rattle.gate.specs.Gate.{look_of}
use Rattle.rules.specs.declared.Looked.{Looked}
use Rattle.ascii.specs.Tests.{both, either}
use Rattle.ascii.proofs.Choice.{never}
use Rattle.kinds.specs.declared.Kind.TheVariants as kind
use Rattle.coordinate.specs.declared.Atom.{Atom}
use Rattle.ter.specs.declared.Ter.{Ter as TerOf}
use Rattle.line.specs.declared.Record.TheVariants.{Coordinate, Ter}
use Rattle.pieces.specs.declared.Line.{Line}
use Rattle.pieces.specs.declared.Line.TheVariants.{Typed}
use Rattle.rules.specs.declared.Run.{Run}
use Rattle.rules.specs.declared.State.{State}
use Rattle.places.specs.Places.{place_bad, coordinate_place, end_place}
use Rattle.rules.specs.Rules.{no_run, site_bad, site_next, judge_of, typed_next, next_of}
use Rattle.places.proofs.Laws.{place_low, place_high}
use Rattle.rules.proofs.Laws.{Good, judge_typed}
use Rattle.serials.specs.Search.{Before}
use Rattle.slots.specs.declared.Slot.{Slot}
use Rattle.table.proofs.Fine.{Fine}
use Rattle.table.proofs.Paired.{closes, in_slot, Beside}
use Rattle.table.proofs.Ahead.{site_here, site_place, not_before, Sane, sane_next, tail_het}
use Rattle.table.proofs.Trails.{Trails, behind_le, behind_one, place_behind, good_trails}

-- the kept run is the whole run where its lines are in, and empty where they are set aside
abbrev pub RunOn : Run → Run → Bool → Type 0
RunOn r k true = k ≡ r
RunOn r k false = k ≡ no_run

-- s over all lines, k over the lines kept; ls come next, beside the slots from slot j on
pub record Follows (xs : List Slot) (j : ℕ) (s k : State) (ls : List Line) : Type 0 where
  pub trails : Trails s k
  pub closed : closes ls ≡ true → RunOn s.run k.run (in_slot xs j)
  pub tail : closes ls ≡ false → k.run.atom ≡ false
  pub early : Before s.place → k.run ≡ no_run

-- both runs empty serve any mark
pub run_both : (r k : Run) (b : Bool) → r ≡ no_run → k ≡ no_run → RunOn r k b
run_both r k true e f = f ∙ sym e
run_both r k false e f = f

run_in : (r k : Run) (b : Bool) → b ≡ true → k ≡ r → RunOn r k b
run_in r k true e f = f
run_in r k false e f = never e

run_out : (r k : Run) (b : Bool) → b ≡ false → k ≡ no_run → RunOn r k b
run_out r k true e f = never (sym e)
run_out r k false e f = f

in_run : (r k : Run) (b : Bool) → b ≡ true → RunOn r k b → k ≡ r
in_run r k true e f = f
in_run r k false e f = never e

out_run : (r k : Run) (b : Bool) → b ≡ false → RunOn r k b → k ≡ no_run
out_run r k true e f = never (sym e)
out_run r k false e f = f

-- ---- lines before the coordinate lines
pub front_next : (xs : List Slot) (j : ℕ) (s k t u : State) (l : Line) (ls : List Line) → Sane s → Follows xs j s k (l ∷ ls) → Before s.place
    → t.run ≡ s.run → u.run ≡ k.run → Trails t u → Follows xs j t u ls
front_next xs j s k t u l ls S M b et eu T =
    let rt : t.run ≡ no_run = et ∙ S.early b in
    let ru : u.run ≡ no_run = eu ∙ M.early b in
    record {
      trails = T;
      closed = λ _. run_both t.run u.run (in_slot xs j) rt ru;
      tail = λ _. ap (λ (r : Run). r.atom) ru;
      early = λ _. ru;
    }

-- ---- MODEL and ENDMDL: both runs begin afresh
pub fence_next : (xs : List Slot) (j : ℕ) (t u : State) (ls : List Line) → t.run ≡ no_run → u.run ≡ no_run → Trails t u → Follows xs j t u ls
fence_next xs j t u ls rt ru T =
    record {
      trails = T;
      closed = λ _. run_both t.run u.run (in_slot xs j) rt ru;
      tail = λ _. ap (λ (r : Run). r.atom) ru;
      early = λ _. ru;
    }

-- ---- lines after them: the runs stay, and none is closed any more
pub back_next : (xs : List Slot) (j : ℕ) (t u : State) (ls : List Line) → closes ls ≡ false → u.run.atom ≡ false → coordinate_place ≤ t.place → t.place ≤ end_place
    → Trails t u → Follows xs j t u ls
back_next xs j t u ls c a h g T =
    record {
      trails = T;
      closed = λ x. never (sym c ∙ x);
      tail = λ _. a;
      early = λ b. absurd (not_before t.place h g b);
    }

-- ---- ATOM and HETATM lines
site_run : (r k : Run) (het : Bool) (chain : ℕ) (c : Bool) → (c ≡ true → k ≡ r) → (c ≡ false → k.atom ≡ false) → (c ≡ false → not het ≡ false)
    → site_bad r het chain ≡ false → site_bad k het chain ≡ false
unfolding site_bad both
site_run r k het chain true x y z g = rw (x refl) g
site_run r k het chain false x y z g = rw (not-false het (z refl), y refl)

module _ (xs : List Slot) (j : ℕ) (seen : List Line) (s k : State) (het : Bool) (a : Atom) (ls : List Line) (S : Sane s)
    (f : Fine seen s (Typed (Coordinate het a) ∷ ls)) (B : Beside xs j (Typed (Coordinate het a)) ls) (M : Follows xs j s k (Typed (Coordinate het a) ∷ ls)) where
  site_good : Good (look_of seen (Typed (Coordinate het a))) s (Coordinate het a)
  site_good = judge_typed _ s (Coordinate het a) f.1

  site_low : place_bad s.place kind.Atom ≡ false
  site_low = sym (site_place s.place het) ∙ site_good.place

  site_closed : closes ls ≡ true → RunOn s.run k.run (in_slot xs j)
  unfolding closes either
  site_closed c = M.closed c

  site_tail : closes ls ≡ false → k.run.atom ≡ false
  unfolding closes either
  site_tail c = M.tail c

  -- in an open tail the line is a HETATM
  site_het : closes ls ≡ false → not het ≡ false
  unfolding next_of typed_next site_next
  site_het c = tail_het _ (next_of s (Typed (Coordinate het a))) s.run het ls (sane_next _ s (Typed (Coordinate het a)) S f.0 f.1) f.2 refl c

  pub site_judged : (v : Looked) → v.twin ≡ false → in_slot xs j ≡ true → judge_of v k (Typed (Coordinate het a)) ≡ 0
  site_judged v w i =
      good_trails _ v s k (Coordinate het a) M.trails site_good
      (site_place k.place het ∙ place_behind k.place s.place kind.Atom refl M.trails.place site_low)
      (site_run s.run k.run het a.identity.residue.chain (closes ls) (λ c. in_run _ _ (in_slot xs j) i (site_closed c)) site_tail site_het site_good.run)
      w refl refl

  pub site_in : in_slot xs j ≡ true → Follows xs (j + 1) (next_of s (Typed (Coordinate het a))) (next_of k (Typed (Coordinate het a))) ls
  unfolding next_of typed_next site_next either
  site_in i =
      record {
        trails = record { place = inl refl; models = M.trails.models; last = le_refl _; bond = M.trails.bond; helix = M.trails.helix; ladder = M.trails.ladder };
        closed = λ c. run_in _ _ (in_slot xs (j + 1)) (sym (B.agree refl c) ∙ i) (ap (λ (r : Run). site_next r het a.identity.residue) (in_run _ _ (in_slot xs j) i (site_closed c)));
        tail = λ c. rw (site_tail c, site_het c);
        early = λ b. absurd (not_before _ (omega (arith, site_here het)) (omega (arith, site_here het)) b);
      }

  pub site_out : in_slot xs j ≡ false → Follows xs (j + 1) (next_of s (Typed (Coordinate het a))) k ls
  unfolding next_of typed_next
  site_out i =
      let low : 1 ≤ s.place = place_low s.place kind.Atom site_low in
      let high : s.place ≤ 18 = place_high s.place kind.Atom site_low in
      let p : k.place ≤ s.place = behind_le k.place s.place M.trails.place in
      record {
        trails =
            record {
              place = rw (site_here het) (inr (behind_one k.place s.place M.trails.place low, le_trans p high, omega arith, omega arith));
              models = M.trails.models;
              last = le_trans M.trails.last (le_of_lt (leb-false _ _ site_good.serial));
              bond = M.trails.bond;
              helix = M.trails.helix;
              ladder = M.trails.ladder;
            };
        closed = λ c. run_out _ _ (in_slot xs (j + 1)) (sym (B.agree refl c) ∙ i) (out_run _ _ (in_slot xs j) i (site_closed c));
        tail = site_tail;
        early = λ b. absurd (not_before _ (omega (arith, site_here het)) (omega (arith, site_here het)) b);
      }

-- ---- TER lines
module _ (xs : List Slot) (j : ℕ) (s k : State) (t : TerOf) (ls : List Line) (look : Looked) (g : Good look s (Ter t)) (M : Follows xs j s k (Typed (Ter t) ∷ ls)) where
  ter_closed : RunOn s.run k.run (in_slot xs j)
  unfolding closes either
  ter_closed = M.closed refl

  pub ter_judged : (v : Looked) → v.twin ≡ false → in_slot xs j ≡ true → judge_of v k (Typed (Ter t)) ≡ 0
  ter_judged v w i =
      good_trails _ v s k (Ter t) M.trails g (place_behind k.place s.place kind.Ter refl M.trails.place g.place)
      (rw (in_run _ _ (in_slot xs j) i ter_closed) g.run) w refl refl

  pub ter_in : Follows xs (j + 1) (next_of s (Typed (Ter t))) (next_of k (Typed (Ter t))) ls
  unfolding next_of typed_next
  ter_in =
      record {
        trails = record { place = inl refl; models = M.trails.models; last = le_refl _; bond = M.trails.bond; helix = M.trails.helix; ladder = M.trails.ladder };
        closed = λ c. run_both no_run no_run (in_slot xs (j + 1)) refl refl;
        tail = λ c. refl;
        early = λ b. refl;
      }

  pub ter_out : in_slot xs j ≡ false → Follows xs (j + 1) (next_of s (Typed (Ter t))) k ls
  unfolding next_of typed_next
  ter_out i =
      let low : 1 ≤ s.place = place_low s.place kind.Ter g.place in
      let high : s.place ≤ 18 = place_high s.place kind.Ter g.place in
      let p : k.place ≤ s.place = behind_le k.place s.place M.trails.place in
      let none : k.run ≡ no_run = out_run _ _ (in_slot xs j) i ter_closed in
      record {
        trails =
            record {
              place = inr (behind_one k.place s.place M.trails.place low, le_trans p high, omega arith, omega arith);
              models = M.trails.models;
              last = le_trans M.trails.last (le_of_lt (leb-false _ _ g.serial));
              bond = M.trails.bond;
              helix = M.trails.helix;
              ladder = M.trails.ladder;
            };
        closed = λ c. run_both no_run k.run (in_slot xs (j + 1)) refl none;
        tail = λ c. ap (λ (r : Run). r.atom) none;
        early = λ b. none;
      }
