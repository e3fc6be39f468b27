-- The lines kept of an accepted text are accepted: the simulation, line by line.
-- Assumes nothing.
use Rattle.std.proofs.Common.{Some}
use Prim.Native.Nat.{ℕ, ◌+◌, ◌≤◌}
use mathlib.Core.List.{List, [], ◌∷◌}
use mathlib.Core.Bool.{Bool, true, false}
use mathlib.Core.Path.{◌≡◌, refl, ◌∙◌, ap}
use mathlib.Core.Logic.{inl, inr}
use native.Mathlib.Omega.{arith}
use native.Mathlib.Nat.{le_trans, le_refl}
use Rattle.ascii.specs.Tests.{either}
use Rattle.kinds.specs.declared.Kind.{Kind}
use Rattle.kinds.specs.declared.Kind.TheVariants as kind
use Rattle.coordinate.specs.declared.Atom.{Atom}
use Rattle.coordinate.specs.declared.Identity.{Identity}
use Rattle.ter.specs.declared.Ter.{Ter as TerOf}
use Rattle.helix.specs.declared.Helix.{Helix as HelixOf}
use Rattle.sheet.specs.declared.Sheet.{Sheet as SheetOf}
use Rattle.conect.specs.declared.Conect.{Conect as ConectOf}
use Rattle.master.specs.declared.Tally.{Tally}
use Rattle.model.specs.declared.Model.{Model as ModelOf}
use Rattle.cell.specs.declared.Cell.{Cell as CellOf}
use Rattle.transform.specs.declared.Axis.{Axis}
use Rattle.transform.specs.declared.Transform.{Transform as TransformOf}
use Rattle.places.specs.declared.Models.{Models}
use Rattle.line.specs.declared.Record.TheVariants.{Coordinate, Ter, Helix, Sheet, Conect, Master, End, Model, Endmdl, Cell, Transform}
use Rattle.pieces.specs.declared.Line.{Line}
use Rattle.pieces.specs.declared.Line.TheVariants.{Bad, Wrong, Carried, Typed}
use Rattle.rules.specs.declared.Run.{Run}
use Rattle.rules.specs.declared.State.{State}
use Rattle.rules.specs.Rules.{no_run, models_next, judge_of, carried_next, typed_next, next_of, start_of}
use Rattle.places.proofs.Laws.{place_low, place_high}
use Rattle.rules.proofs.Laws.{Good, judge_typed, judge_carried, judge_bad, judge_wrong}
use Rattle.serials.specs.Known.{some_of, front, bond_known}
use Rattle.twins.specs.Twins.{is_twin}
use Rattle.gate.specs.Gate.{look_of, number_in, check_lines}
use Rattle.facets.specs.declared.Fence.TheVariants.{Opens, Shuts}
use Rattle.facets.specs.Facets.{is_coord, is_fence}
use Rattle.serials.specs.Search.{Before}
use Rattle.slots.specs.declared.Slot.{Slot}
use Rattle.table.specs.Deal.{stands_in, stays, tally_of}
use Rattle.table.proofs.Fine.{Fine, granted_end, granted_step}
use Rattle.table.proofs.Paired.{closes, in_slot, Paired}
use Rattle.table.proofs.Named.{Held, held_in, held_out, held_skip, held_other, held_fence, held_bond}
use Rattle.table.proofs.Plain.{cell_front, transform_front}
use Rattle.table.proofs.Ahead.{Sane, sane_next, no_close}
use Rattle.table.proofs.Saved.{saved_lines, saved_in, saved_out, saved_stay, saved_skip, paired_site, paired_other}
use Rattle.table.proofs.Trails.{behind_le, behind_one, behind_same, behind_before, place_behind, bond_split, bond_join, good_trails, master_trails, carried_trails}
use Rattle.table.proofs.Follow.{Follows, run_both, front_next, fence_next, back_next, site_judged, site_in, site_out, ter_judged, ter_in, ter_out}

-- the lines kept of ls are accepted, after the lines kept before them
abbrev Kept : List Slot → ℕ → List Line → State → List Line → Type 0
Kept xs j kept k ls = (check_lines kept k (saved_lines xs j k.models.past k.counts ls)).number ≡ 0

-- what is asked of the lines after this one, whatever state and lines they come after
abbrev Again : List Slot → ℕ → List Line → Type 0
Again xs j ls = (seen kept : List Line) (s k : State) → Held xs j seen kept → Sane s → Fine seen s ls → Paired xs j ls → Follows xs j s k ls → Kept xs j kept k ls

module _ (xs : List Slot) (j : ℕ) (seen kept : List Line) (s k : State) (H : Held xs j seen kept) (S : Sane s) where
  -- a line that stays as it is, or as m
  stay : (l m : Line) (ls : List Line) → Again xs j ls → Fine seen s (l ∷ ls) → Paired xs j (l ∷ ls)
      → Held xs j (l ∷ seen) (m ∷ kept) → is_coord l ≡ false
      → saved_lines xs j k.models.past k.counts (l ∷ ls) ≡ m ∷ saved_lines xs j (next_of k m).models.past (next_of k m).counts ls
      → number_in kept k m ≡ 0 → Follows xs j (next_of s l) (next_of k m) ls → Kept xs j kept k (l ∷ ls)
  stay l m ls again f P D c e g M =
      rw e
      (granted_step kept k m _ g
      (again (l ∷ seen) (m ∷ kept) (next_of s l) (next_of k m) D (sane_next _ s l S f.0 f.1) f.2 (paired_other xs j l ls c P) M))

  -- what is held of a line that is no atom, and kept as one that is none
  other : (l m : Line) → is_fence l ≡ false → is_fence m ≡ false → ((a : Identity) → is_twin a m ≡ false) → Held xs j (l ∷ seen) (m ∷ kept)
  other l m f g t = held_other xs j seen kept H l m f g t

  -- carried lines, HELIX and SHEET
  keep_carried : (x : Kind) (ls : List Line) → Again xs j ls → Fine seen s (Carried x ∷ ls) → Paired xs j (Carried x ∷ ls) → Follows xs j s k (Carried x ∷ ls) → Kept xs j kept k (Carried x ∷ ls)
  unfolding next_of carried_next stays
  keep_carried x ls again f P M =
      let b : Before s.place = f.0.after s.place (judge_carried (look_of seen (Carried x)) s x f.1).0 in
      let T = M.trails in
      stay (Carried x) (Carried x) ls again f P (other (Carried x) (Carried x) refl refl (λ a. refl)) refl (saved_stay xs j k.models.past k.counts (Carried x) ls refl refl)
      (carried_trails (look_of seen (Carried x)) (look_of kept (Carried x)) s k x (behind_before k.place s.place T.place b) T.models T.ladder f.1)
      (front_next xs j s k (next_of s (Carried x)) (next_of k (Carried x)) (Carried x) ls S M b refl refl
      (record { place = inl refl; models = T.models; last = T.last; bond = T.bond; helix = T.helix; ladder = T.ladder }))

  keep_helix : (h : HelixOf) (ls : List Line) → Again xs j ls → Fine seen s (Typed (Helix h) ∷ ls) → Paired xs j (Typed (Helix h) ∷ ls) → Follows xs j s k (Typed (Helix h) ∷ ls) → Kept xs j kept k (Typed (Helix h) ∷ ls)
  unfolding next_of typed_next stays
  keep_helix h ls again f P M =
      let g = judge_typed _ s (Helix h) f.1 in
      let b : Before s.place = inl (omega (arith, place_high s.place kind.Helix g.place)) in
      let T = M.trails in
      let r : k.run.atom ≡ false = ap (λ (y : Run). y.atom) (M.early b) in
      stay (Typed (Helix h)) (Typed (Helix h)) ls again f P (other (Typed (Helix h)) (Typed (Helix h)) refl refl (λ a. refl)) refl (saved_stay xs j k.models.past k.counts (Typed (Helix h)) ls refl refl)
      (good_trails _ _ s k (Helix h) T g (place_behind k.place s.place kind.Helix refl T.place g.place) r refl refl refl)
      (front_next xs j s k (next_of s (Typed (Helix h))) (next_of k (Typed (Helix h))) (Typed (Helix h)) ls S M b refl refl
      (record { place = inl refl; models = T.models; last = T.last; bond = T.bond; helix = refl; ladder = T.ladder }))

  keep_sheet : (h : SheetOf) (ls : List Line) → Again xs j ls → Fine seen s (Typed (Sheet h) ∷ ls) → Paired xs j (Typed (Sheet h) ∷ ls) → Follows xs j s k (Typed (Sheet h) ∷ ls) → Kept xs j kept k (Typed (Sheet h) ∷ ls)
  unfolding next_of typed_next stays
  keep_sheet h ls again f P M =
      let g = judge_typed _ s (Sheet h) f.1 in
      let b : Before s.place = inl (omega (arith, place_high s.place kind.Sheet g.place)) in
      let T = M.trails in
      let r : k.run.atom ≡ false = ap (λ (y : Run). y.atom) (M.early b) in
      stay (Typed (Sheet h)) (Typed (Sheet h)) ls again f P (other (Typed (Sheet h)) (Typed (Sheet h)) refl refl (λ a. refl)) refl (saved_stay xs j k.models.past k.counts (Typed (Sheet h)) ls refl refl)
      (good_trails _ _ s k (Sheet h) T g (place_behind k.place s.place kind.Sheet refl T.place g.place) r refl refl refl)
      (front_next xs j s k (next_of s (Typed (Sheet h))) (next_of k (Typed (Sheet h))) (Typed (Sheet h)) ls S M b refl refl
      (record { place = inl refl; models = T.models; last = T.last; bond = T.bond; helix = T.helix; ladder = refl }))

  -- CRYST1, ORIGX and SCALE
  keep_cell : (c : CellOf) (ls : List Line) → Again xs j ls → Fine seen s (Typed (Cell c) ∷ ls) → Paired xs j (Typed (Cell c) ∷ ls)
      → Follows xs j s k (Typed (Cell c) ∷ ls) → Kept xs j kept k (Typed (Cell c) ∷ ls)
  unfolding next_of typed_next stays
  keep_cell c ls again f P M =
      let g = judge_typed _ s (Cell c) f.1 in
      let b : Before s.place = cell_front.after s.place g.place in
      let T = M.trails in
      let r : k.run.atom ≡ false = ap (λ (y : Run). y.atom) (M.early b) in
      stay (Typed (Cell c)) (Typed (Cell c)) ls again f P (other (Typed (Cell c)) (Typed (Cell c)) refl refl (λ a. refl)) refl (saved_stay xs j k.models.past k.counts (Typed (Cell c)) ls refl refl)
      (good_trails _ _ s k (Cell c) T g (rw (behind_before k.place s.place T.place b) g.place) r refl refl refl)
      (front_next xs j s k (next_of s (Typed (Cell c))) (next_of k (Typed (Cell c))) (Typed (Cell c)) ls S M b refl refl
      (record { place = inl refl; models = T.models; last = T.last; bond = T.bond; helix = T.helix; ladder = T.ladder }))

  keep_transform : (scale : Bool) (axis : Axis) (t : TransformOf) (ls : List Line) → Again xs j ls → Fine seen s (Typed (Transform scale axis t) ∷ ls) → Paired xs j (Typed (Transform scale axis t) ∷ ls)
      → Follows xs j s k (Typed (Transform scale axis t) ∷ ls) → Kept xs j kept k (Typed (Transform scale axis t) ∷ ls)
  unfolding next_of typed_next stays
  keep_transform scale axis t ls again f P M =
      let g = judge_typed _ s (Transform scale axis t) f.1 in
      let b : Before s.place = (transform_front scale axis).after s.place g.place in
      let T = M.trails in
      let r : k.run.atom ≡ false = ap (λ (y : Run). y.atom) (M.early b) in
      stay (Typed (Transform scale axis t)) (Typed (Transform scale axis t)) ls again f P (other (Typed (Transform scale axis t)) (Typed (Transform scale axis t)) refl refl (λ a. refl)) refl (saved_stay xs j k.models.past k.counts (Typed (Transform scale axis t)) ls refl refl)
      (good_trails _ _ s k (Transform scale axis t) T g (rw (behind_before k.place s.place T.place b) g.place) r refl refl refl)
      (front_next xs j s k (next_of s (Typed (Transform scale axis t))) (next_of k (Typed (Transform scale axis t))) (Typed (Transform scale axis t)) ls S M b refl refl
      (record { place = inl refl; models = T.models; last = T.last; bond = T.bond; helix = T.helix; ladder = T.ladder }))

  -- ATOM and HETATM
  keep_site : (het : Bool) (a : Atom) (ls : List Line) → Again xs (j + 1) ls → Fine seen s (Typed (Coordinate het a) ∷ ls) → Paired xs j (Typed (Coordinate het a) ∷ ls)
      → Follows xs j s k (Typed (Coordinate het a) ∷ ls) → Kept xs j kept k (Typed (Coordinate het a) ∷ ls)
  unfolding next_of typed_next
  keep_site het a ls again f P M = go (in_slot xs j) refl
    where
      go : (b : Bool) → in_slot xs j ≡ b → Kept xs j kept k (Typed (Coordinate het a) ∷ ls)
      go true i =
          rw (saved_in xs j k.models.past k.counts (Typed (Coordinate het a)) ls refl i)
          (granted_step kept k (Typed (Coordinate het a)) _ (site_judged xs j seen s k het a ls S f (P.0 refl) M _ (H.twins a.identity (judge_typed _ s (Coordinate het a) f.1).twin) i)
          (again _ _ (next_of s (Typed (Coordinate het a))) (next_of k (Typed (Coordinate het a))) (held_in xs j seen kept H _ ls refl (P.0 refl)) (sane_next _ s _ S f.0 f.1) f.2 (paired_site xs j _ ls refl P)
          (site_in xs j seen s k het a ls S f (P.0 refl) M i)))
      go false i =
          rw (saved_out xs j k.models.past k.counts (Typed (Coordinate het a)) ls refl i)
          (again _ _ (next_of s (Typed (Coordinate het a))) k (held_out xs j seen kept H _ ls refl (P.0 refl) i) (sane_next _ s _ S f.0 f.1) f.2 (paired_site xs j _ ls refl P)
          (site_out xs j seen s k het a ls S f (P.0 refl) M i))

  keep_ter : (t : TerOf) (ls : List Line) → Again xs (j + 1) ls → Fine seen s (Typed (Ter t) ∷ ls) → Paired xs j (Typed (Ter t) ∷ ls)
      → Follows xs j s k (Typed (Ter t) ∷ ls) → Kept xs j kept k (Typed (Ter t) ∷ ls)
  unfolding next_of typed_next
  keep_ter t ls again f P M = go (in_slot xs j) refl
    where
      go : (b : Bool) → in_slot xs j ≡ b → Kept xs j kept k (Typed (Ter t) ∷ ls)
      go true i =
          rw (saved_in xs j k.models.past k.counts (Typed (Ter t)) ls refl i)
          (granted_step kept k (Typed (Ter t)) _ (ter_judged xs j s k t ls _ (judge_typed _ s (Ter t) f.1) M _ refl i)
          (again _ _ (next_of s (Typed (Ter t))) (next_of k (Typed (Ter t))) (held_in xs j seen kept H _ ls refl (P.0 refl)) (sane_next _ s _ S f.0 f.1) f.2 (paired_site xs j _ ls refl P)
          (ter_in xs j s k t ls _ (judge_typed _ s (Ter t) f.1) M)))
      go false i =
          rw (saved_out xs j k.models.past k.counts (Typed (Ter t)) ls refl i)
          (again _ _ (next_of s (Typed (Ter t))) k (held_out xs j seen kept H _ ls refl (P.0 refl) i) (sane_next _ s _ S f.0 f.1) f.2 (paired_site xs j _ ls refl P)
          (ter_out xs j s k t ls _ (judge_typed _ s (Ter t) f.1) M i))

  -- CONECT, by whether it names an atom set aside
  keep_bond : (c : ConectOf) (ls : List Line) → Again xs j ls → Fine seen s (Typed (Conect c) ∷ ls) → Paired xs j (Typed (Conect c) ∷ ls)
      → Follows xs j s k (Typed (Conect c) ∷ ls) → Kept xs j kept k (Typed (Conect c) ∷ ls)
  unfolding next_of typed_next stays closes either
  keep_bond c ls again f P M = go (stays xs j (Typed (Conect c))) refl
    where
      g : Good (look_of seen (Typed (Conect c))) s (Conect c)
      g = judge_typed (look_of seen (Typed (Conect c))) s (Conect c) f.1

      low : 1 ≤ s.place
      low = place_low s.place kind.Conect g.place

      high : s.place ≤ 19
      high = place_high s.place kind.Conect g.place

      bond : (bond_known seen (Some c) ≡ true) × (s.bond.0 ≤ c.serial.0)
      bond = bond_split (bond_known seen (Some c)) s.bond c g.bond

      none : closes ls ≡ false
      none = no_close _ (next_of s (Typed (Conect c))) ls f.2 (omega arith) (omega arith)

      idle : k.run.atom ≡ false
      idle = M.tail none

      go : (b : Bool) → stays xs j (Typed (Conect c)) ≡ b → Kept xs j kept k (Typed (Conect c) ∷ ls)
      go true i =
          stay (Typed (Conect c)) (Typed (Conect c)) ls again f P (other (Typed (Conect c)) (Typed (Conect c)) refl refl (λ a. refl)) refl (saved_stay xs j k.models.past k.counts (Typed (Conect c)) ls refl i)
          (good_trails (look_of seen (Typed (Conect c))) (look_of kept (Typed (Conect c))) s k (Conect c) M.trails g (place_behind k.place s.place kind.Conect refl M.trails.place g.place) idle refl
          (bond_join (bond_known kept (Some c)) k.bond c (held_bond xs j seen kept H c i) (le_trans M.trails.bond bond.1)) refl)
          (back_next xs j (next_of s (Typed (Conect c))) (next_of k (Typed (Conect c))) ls none idle (omega arith) (omega arith)
          (record { place = inl refl; models = M.trails.models; last = M.trails.last; bond = le_refl _; helix = M.trails.helix; ladder = M.trails.ladder }))
      go false i =
          rw (saved_skip xs j k.models.past k.counts (Typed (Conect c)) ls refl i)
          (again _ _ (next_of s (Typed (Conect c))) k (held_skip xs j seen kept H (Typed (Conect c)) refl) (sane_next _ s _ S f.0 f.1) f.2 (paired_other xs j _ ls refl P)
          (back_next xs j (next_of s (Typed (Conect c))) k ls none idle (omega arith) (omega arith)
          (record {
            place = inr (behind_one k.place s.place M.trails.place low, le_trans (behind_le k.place s.place M.trails.place) high, omega arith, omega arith);
            models = M.trails.models;
            last = M.trails.last;
            bond = le_trans M.trails.bond bond.1;
            helix = M.trails.helix;
            ladder = M.trails.ladder;
          })))

  -- MASTER counted again, and END
  keep_master : (t : Tally) (ls : List Line) → Again xs j ls → Fine seen s (Typed (Master t) ∷ ls) → Paired xs j (Typed (Master t) ∷ ls)
      → Follows xs j s k (Typed (Master t) ∷ ls) → Kept xs j kept k (Typed (Master t) ∷ ls)
  unfolding next_of typed_next stays closes either
  keep_master t ls again f P M =
      let none : closes ls ≡ false = no_close _ (next_of s (Typed (Master t))) ls f.2 (omega arith) (omega arith) in
      let idle : k.run.atom ≡ false = M.tail none in
      let T = M.trails in
      stay (Typed (Master t)) (Typed (Master (tally_of k.counts))) ls again f P (other (Typed (Master t)) (Typed (Master (tally_of k.counts))) refl refl (λ a. refl)) refl (saved_stay xs j k.models.past k.counts (Typed (Master t)) ls refl refl)
      (master_trails _ _ s k t T (judge_typed _ s (Master t) f.1) idle refl)
      (back_next xs j (next_of s (Typed (Master t))) (next_of k (Typed (Master (tally_of k.counts)))) ls none idle (omega arith) (omega arith)
      (record { place = inl refl; models = T.models; last = T.last; bond = T.bond; helix = T.helix; ladder = T.ladder }))

  keep_end : (ls : List Line) → Again xs j ls → Fine seen s (Typed End ∷ ls) → Paired xs j (Typed End ∷ ls) → Follows xs j s k (Typed End ∷ ls) → Kept xs j kept k (Typed End ∷ ls)
  unfolding next_of typed_next stays closes either
  keep_end ls again f P M =
      let none : closes ls ≡ false = no_close _ (next_of s (Typed End)) ls f.2 (omega arith) (omega arith) in
      let idle : k.run.atom ≡ false = M.tail none in
      let T = M.trails in
      let g = judge_typed _ s End f.1 in
      let low : 20 ≤ s.place = place_low s.place kind.End g.place in
      let e : k.place ≡ s.place = behind_same k.place s.place T.place (omega arith) in
      stay (Typed End) (Typed End) ls again f P (other (Typed End) (Typed End) refl refl (λ a. refl)) refl (saved_stay xs j k.models.past k.counts (Typed End) ls refl refl)
      (good_trails _ _ s k End T g (rw e g.place) idle refl refl refl)
      (back_next xs j (next_of s (Typed End)) (next_of k (Typed End)) ls none idle (omega arith) (omega arith)
      (record { place = inl refl; models = T.models; last = T.last; bond = T.bond; helix = T.helix; ladder = T.ladder }))

  -- MODEL and ENDMDL
  keep_model : (m : ModelOf) (ls : List Line) → Again xs j ls → Fine seen s (Typed (Model m) ∷ ls) → Paired xs j (Typed (Model m) ∷ ls)
      → Follows xs j s k (Typed (Model m) ∷ ls) → Kept xs j kept k (Typed (Model m) ∷ ls)
  unfolding next_of typed_next stays closes
  keep_model m ls again f P M =
      let g = judge_typed _ s (Model m) f.1 in
      let T = M.trails in
      stay (Typed (Model m)) (Typed (Model m)) ls again f P (held_fence xs j seen kept H (Typed (Model m)) refl) refl
      (saved_stay xs j k.models.past k.counts (Typed (Model m)) ls refl refl)
      (good_trails _ _ s k (Model m) T g (place_behind k.place s.place kind.Model refl T.place g.place) (M.tail refl) refl refl refl)
      (fence_next xs j (next_of s (Typed (Model m))) (next_of k (Typed (Model m))) ls refl refl
      (record { place = inl refl; models = ap (λ (x : Models). models_next x (Some (Opens m.number))) T.models; last = le_refl _; bond = T.bond; helix = T.helix; ladder = T.ladder }))

  keep_endmdl : (ls : List Line) → Again xs j ls → Fine seen s (Typed Endmdl ∷ ls) → Paired xs j (Typed Endmdl ∷ ls)
      → Follows xs j s k (Typed Endmdl ∷ ls) → Kept xs j kept k (Typed Endmdl ∷ ls)
  unfolding next_of typed_next stays closes
  keep_endmdl ls again f P M =
      let g = judge_typed _ s Endmdl f.1 in
      let T = M.trails in
      stay (Typed Endmdl) (Typed Endmdl) ls again f P (held_fence xs j seen kept H (Typed Endmdl) refl) refl
      (saved_stay xs j k.models.past k.counts (Typed Endmdl) ls refl refl)
      (good_trails _ _ s k Endmdl T g (place_behind k.place s.place kind.Endmdl refl T.place g.place) (M.tail refl) refl refl refl)
      (fence_next xs j (next_of s (Typed Endmdl)) (next_of k (Typed Endmdl)) ls refl refl
      (record { place = inl refl; models = ap (λ (x : Models). models_next x (Some Shuts)) T.models; last = le_refl _; bond = T.bond; helix = T.helix; ladder = T.ladder }))

-- THE SIMULATION
pub kept_granted : (xs : List Slot) (j : ℕ) (ls : List Line) → Again xs j ls
unfolding saved_lines judge_of
kept_granted xs j [] seen kept s k H S f P M = granted_end kept k (behind_same k.place s.place M.trails.place (omega arith) ∙ f)
kept_granted xs j (Bad n ∷ ls) seen kept s k H S f P M = absurd (judge_bad (look_of seen (Bad n)) s n f.1)
kept_granted xs j (Wrong x column ∷ ls) seen kept s k H S f P M = absurd (judge_wrong (look_of seen (Wrong x column)) s x column f.1)
kept_granted xs j (Carried x ∷ ls) seen kept s k H S f P M = keep_carried xs j seen kept s k H S x ls (kept_granted xs j ls) f P M
kept_granted xs j (Typed (Coordinate het a) ∷ ls) seen kept s k H S f P M = keep_site xs j seen kept s k H S het a ls (kept_granted xs (j + 1) ls) f P M
kept_granted xs j (Typed (Ter t) ∷ ls) seen kept s k H S f P M = keep_ter xs j seen kept s k H S t ls (kept_granted xs (j + 1) ls) f P M
kept_granted xs j (Typed (Helix h) ∷ ls) seen kept s k H S f P M = keep_helix xs j seen kept s k H S h ls (kept_granted xs j ls) f P M
kept_granted xs j (Typed (Sheet h) ∷ ls) seen kept s k H S f P M = keep_sheet xs j seen kept s k H S h ls (kept_granted xs j ls) f P M
kept_granted xs j (Typed (Conect c) ∷ ls) seen kept s k H S f P M = keep_bond xs j seen kept s k H S c ls (kept_granted xs j ls) f P M
kept_granted xs j (Typed (Master t) ∷ ls) seen kept s k H S f P M = keep_master xs j seen kept s k H S t ls (kept_granted xs j ls) f P M
kept_granted xs j (Typed End ∷ ls) seen kept s k H S f P M = keep_end xs j seen kept s k H S ls (kept_granted xs j ls) f P M
kept_granted xs j (Typed (Cell c) ∷ ls) seen kept s k H S f P M = keep_cell xs j seen kept s k H S c ls (kept_granted xs j ls) f P M
kept_granted xs j (Typed (Transform scale axis t) ∷ ls) seen kept s k H S f P M = keep_transform xs j seen kept s k H S scale axis t ls (kept_granted xs j ls) f P M
kept_granted xs j (Typed (Model m) ∷ ls) seen kept s k H S f P M = keep_model xs j seen kept s k H S m ls (kept_granted xs j ls) f P M
kept_granted xs j (Typed Endmdl ∷ ls) seen kept s k H S f P M = keep_endmdl xs j seen kept s k H S ls (kept_granted xs j ls) f P M

-- from the first line on
pub start_granted : (xs : List Slot) (ls : List Line) → Fine [] start_of ls → Paired xs 0 ls → (check_lines [] start_of (saved_lines xs 0 start_of.models.past start_of.counts ls)).number ≡ 0
unfolding start_of some_of stands_in front
start_granted xs ls f P =
    kept_granted xs 0 ls [] [] start_of start_of (record { atoms = λ n e. e; twins = λ a e. e }) (record { early = λ b. refl; late = λ h g. refl }) f P
    (record {
      trails = record { place = inl refl; models = refl; last = le_refl _; bond = le_refl _; helix = refl; ladder = refl };
      closed = λ c. run_both no_run no_run (in_slot xs 0) refl refl;
      tail = λ c. refl;
      early = λ b. refl;
    })
