-- In an accepted text models come one after the other: after each MODEL and ENDMDL the coordinate lines are of models above the one before.
-- Assumes nothing.
use Prim.Native.Nat.{ℕ, ◌+◌, ◌≤◌, ◌<◌}
use mathlib.Core.List.{List, [], ◌∷◌, map}
use mathlib.Core.Bool.{true, false, not, true≢false}
use mathlib.Core.Path.{◌≡◌, refl, sym, ◌∙◌}
use mathlib.Core.Logic.{◌⊎◌, inl, inr}
use native.Mathlib.Omega.{arith}
use native.Mathlib.Nat.{le_refl}
use borrow.Author.Tests.{eqb-true}
use Rattle.ascii.specs.Tests.{pick, both}
use Rattle.ascii.proofs.Choice.{never, not_false, either_none}
use Rattle.kinds.specs.declared.Kind.{Kind}
use Rattle.kinds.specs.declared.Kind.TheVariants as kind
use Rattle.kinds.specs.Kinds.{row_of}
use Rattle.line.specs.declared.Record.TheVariants.{Coordinate, Ter, Helix, Sheet, Conect, Master, End, Model, Endmdl, Cell, Transform}
use Rattle.pieces.specs.declared.Line.{Line}
use Rattle.pieces.specs.declared.Line.TheVariants.{Bad, Wrong, Carried, Typed}
use Rattle.pieces.specs.Pieces.{line_of}
use Rattle.places.specs.declared.Models.{Models}
use Rattle.places.specs.Places.{fence_bad}
use Rattle.transform.specs.Transforms.{transform_kind}
use Rattle.facets.specs.Facets.{is_coord}
use Rattle.rules.specs.declared.State.{State}
use Rattle.rules.specs.Rules.{judge_of, carried_next, typed_next, next_of, start_of}
use Rattle.rules.proofs.Laws.{judge_typed, judge_carried, judge_bad, judge_wrong}
use Rattle.rows.specs.Text.{cut}
use Rattle.serials.specs.Search.{Before}
use Rattle.gate.specs.Gate.{look_of, check_of}
use Rattle.slots.specs.Slots.{no_model}
use Rattle.table.specs.Table.{lines_from, model_next}
use Rattle.table.proofs.Fine.{Fine, accepted_fine}
use Rattle.table.proofs.Plain.{cell_front, transform_front}
use Rattle.table.proofs.Ahead.{not_before}
use Rattle.table.proofs.Paired.{Above, Fenced}

-- the model that the lines so far leave
abbrev current : State → ℕ
current s = pick s.models.inside s.models.number 0

-- the models to come are above c: one above it is open, or one not below it is past and shut
abbrev Ahead : State → ℕ → Type 0
Ahead s c = ((s.models.inside ≡ true) × (c < s.models.number)) ⊎ ((s.models.inside ≡ false) × (s.models.past ≡ true) × (c ≤ s.models.number))

-- ---- what a good line says of the models
-- a kind that stands before the coordinate lines does not stand in a model
front_fence : (p : ℕ) (m : Models) (k : Kind) → Before (row_of k).here → fence_bad p m k ≡ m.inside
unfolding fence_bad
front_fence p m kind.Header b = refl
front_fence p m kind.Title b = refl
front_fence p m kind.Compnd b = refl
front_fence p m kind.Source b = refl
front_fence p m kind.Keywds b = refl
front_fence p m kind.Expdta b = refl
front_fence p m kind.Author b = refl
front_fence p m kind.Revdat b = refl
front_fence p m kind.Jrnl b = refl
front_fence p m kind.Remark b = refl
front_fence p m kind.Seqres b = refl
front_fence p m kind.Het b = refl
front_fence p m kind.Helix b = refl
front_fence p m kind.Sheet b = refl
front_fence p m kind.Cryst1 b = refl
front_fence p m kind.Origx1 b = refl
front_fence p m kind.Origx2 b = refl
front_fence p m kind.Origx3 b = refl
front_fence p m kind.Scale1 b = refl
front_fence p m kind.Scale2 b = refl
front_fence p m kind.Scale3 b = refl
front_fence p m kind.Atom b = absurd (not_before 18 (omega arith) (omega arith) b)
front_fence p m kind.Hetatm b = absurd (not_before 18 (omega arith) (omega arith) b)
front_fence p m kind.Ter b = absurd (not_before 18 (omega arith) (omega arith) b)
front_fence p m kind.Conect b = refl
front_fence p m kind.Master b = refl
front_fence p m kind.End b = refl
front_fence p m kind.Unknown b = refl
front_fence p m kind.Model b = absurd (not_before 18 (omega arith) (omega arith) b)
front_fence p m kind.Endmdl b = absurd (not_before 18 (omega arith) (omega arith) b)

-- a coordinate line is of a model above c, where those to come are
site_above : (m : Models) (c : ℕ) → both m.past (not m.inside) ≡ false → ((m.inside ≡ true) × (c < m.number)) ⊎ ((m.inside ≡ false) × (m.past ≡ true) × (c ≤ m.number))
    → c < pick m.inside m.number 0
unfolding both
site_above m c f (inl a) = rw a.0 a.1
site_above m c f (inr a) = absurd (true≢false (rw (a.0, a.1) at f))

-- ---- the models to come
-- a line that is in no model, and leaves all as it is
above_plain : (seen : List Line) (s : State) (l : Line) (ls : List Line) (c : ℕ) → (is_coord l ≡ true → c < current s) → model_next (current s) l ≡ current s → (next_of s l).models ≡ s.models
    → s.models.inside ≡ false → Ahead s c → (Ahead (next_of s l) c → Above c (current (next_of s l)) ls) → Above c (current s) (l ∷ ls)
above_plain seen s l ls c site e q f A again =
    let B : Ahead (next_of s l) c = rw q A in
    (site, rw (e, ← q) (again B))

above : (seen : List Line) (s : State) (ls : List Line) → Fine seen s ls → (c : ℕ) → Ahead s c → Above c (current s) ls
unfolding next_of typed_next carried_next judge_of fence_bad
above seen s [] f c A = tt
above seen s (Bad n ∷ ls) f c A = absurd (judge_bad (look_of seen (Bad n)) s n f.1)
above seen s (Wrong k column ∷ ls) f c A = absurd (judge_wrong (look_of seen (Wrong k column)) s k column f.1)
above seen s (Carried k ∷ ls) f c A =
    above_plain seen s (Carried k) ls c (λ x. never x) refl refl
    (sym (front_fence s.place s.models k f.0.here) ∙ (judge_carried (look_of seen (Carried k)) s k f.1).2) A (above _ (next_of s (Carried k)) ls f.2 c)
above seen s (Typed (Coordinate true a) ∷ ls) f c A = (λ _. site_above s.models c (judge_typed _ s (Coordinate true a) f.1).fence A, above _ (next_of s (Typed (Coordinate true a))) ls f.2 c A)
above seen s (Typed (Coordinate false a) ∷ ls) f c A = (λ _. site_above s.models c (judge_typed _ s (Coordinate false a) f.1).fence A, above _ (next_of s (Typed (Coordinate false a))) ls f.2 c A)
above seen s (Typed (Ter t) ∷ ls) f c A = (λ _. site_above s.models c (judge_typed _ s (Ter t) f.1).fence A, above _ (next_of s (Typed (Ter t))) ls f.2 c A)
above seen s (Typed (Helix h) ∷ ls) f c A = above_plain seen s (Typed (Helix h)) ls c (λ x. never x) refl refl (judge_typed _ s (Helix h) f.1).fence A (above _ (next_of s (Typed (Helix h))) ls f.2 c)
above seen s (Typed (Sheet h) ∷ ls) f c A = above_plain seen s (Typed (Sheet h)) ls c (λ x. never x) refl refl (judge_typed _ s (Sheet h) f.1).fence A (above _ (next_of s (Typed (Sheet h))) ls f.2 c)
above seen s (Typed (Conect d) ∷ ls) f c A = above_plain seen s (Typed (Conect d)) ls c (λ x. never x) refl refl (judge_typed _ s (Conect d) f.1).fence A (above _ (next_of s (Typed (Conect d))) ls f.2 c)
above seen s (Typed (Master t) ∷ ls) f c A = above_plain seen s (Typed (Master t)) ls c (λ x. never x) refl refl (judge_typed _ s (Master t) f.1).fence A (above _ (next_of s (Typed (Master t))) ls f.2 c)
above seen s (Typed End ∷ ls) f c A = above_plain seen s (Typed End) ls c (λ x. never x) refl refl (judge_typed _ s (End) f.1).fence A (above _ (next_of s (Typed End)) ls f.2 c)
above seen s (Typed (Cell d) ∷ ls) f c A =
    above_plain seen s (Typed (Cell d)) ls c (λ x. never x) refl refl (sym (front_fence s.place s.models kind.Cryst1 cell_front.here) ∙ (judge_typed _ s (Cell d) f.1).fence) A
    (above _ (next_of s (Typed (Cell d))) ls f.2 c)
above seen s (Typed (Transform scale axis d) ∷ ls) f c A =
    above_plain seen s (Typed (Transform scale axis d)) ls c (λ x. never x) refl refl
    (sym (front_fence s.place s.models (transform_kind scale axis) (transform_front scale axis).here) ∙ (judge_typed _ s (Transform scale axis d) f.1).fence) A
    (above _ (next_of s (Typed (Transform scale axis d))) ls f.2 c)
above seen s (Typed (Model m) ∷ ls) f c A = (λ x. never x, above _ (next_of s (Typed (Model m))) ls f.2 c (opened A))
  where
    n : m.number ≡ s.models.number + 1
    n = eqb-true _ _ (not_false _ (judge_typed (look_of seen (Typed (Model m))) s (Model m) f.1).model)

    opened : Ahead s c → Ahead (next_of s (Typed (Model m))) c
    opened (inl a) = absurd (true≢false (sym a.0 ∙ (either_none s.models.inside _ (judge_typed (look_of seen (Typed (Model m))) s (Model m) f.1).fence).0))
    opened (inr a) = inl (refl, omega (arith, n, a.2))
above seen s (Typed Endmdl ∷ ls) f c A = (λ x. never x, above _ (next_of s (Typed Endmdl)) ls f.2 c (shut A))
  where
    shut : Ahead s c → Ahead (next_of s (Typed Endmdl)) c
    shut (inl a) = inr (refl, refl, omega (arith, a.1))
    shut (inr a) = absurd (true≢false (sym (not_false _ (judge_typed (look_of seen (Typed Endmdl)) s Endmdl f.1).fence) ∙ a.0))

-- ---- after each MODEL and ENDMDL
fenced : (seen : List Line) (s : State) (ls : List Line) → Fine seen s ls → Fenced (current s) ls
unfolding next_of typed_next carried_next judge_of fence_bad
fenced seen s [] f = tt
fenced seen s (Bad n ∷ ls) f = absurd (judge_bad (look_of seen (Bad n)) s n f.1)
fenced seen s (Wrong k column ∷ ls) f = absurd (judge_wrong (look_of seen (Wrong k column)) s k column f.1)
fenced seen s (Carried k ∷ ls) f = (λ x. never x, fenced _ (next_of s (Carried k)) ls f.2)
fenced seen s (Typed (Coordinate het a) ∷ ls) f = (λ x. never x, fenced _ (next_of s (Typed (Coordinate het a))) ls f.2)
fenced seen s (Typed (Helix h) ∷ ls) f = (λ x. never x, fenced _ (next_of s (Typed (Helix h))) ls f.2)
fenced seen s (Typed (Sheet h) ∷ ls) f = (λ x. never x, fenced _ (next_of s (Typed (Sheet h))) ls f.2)
fenced seen s (Typed (Conect c) ∷ ls) f = (λ x. never x, fenced _ (next_of s (Typed (Conect c))) ls f.2)
fenced seen s (Typed (Master t) ∷ ls) f = (λ x. never x, fenced _ (next_of s (Typed (Master t))) ls f.2)
fenced seen s (Typed End ∷ ls) f = (λ x. never x, fenced _ (next_of s (Typed End)) ls f.2)
fenced seen s (Typed (Ter t) ∷ ls) f = (λ x. never x, fenced _ (next_of s (Typed (Ter t))) ls f.2)
fenced seen s (Typed (Cell c) ∷ ls) f = (λ x. never x, fenced _ (next_of s (Typed (Cell c))) ls f.2)
fenced seen s (Typed (Transform scale axis t) ∷ ls) f = (λ x. never x, fenced _ (next_of s (Typed (Transform scale axis t))) ls f.2)
fenced seen s (Typed (Model m) ∷ ls) f = (λ _. rw out (above _ (next_of s (Typed (Model m))) ls f.2 0 (inl (refl, omega (arith, n)))), fenced _ (next_of s (Typed (Model m))) ls f.2)
  where
    n : m.number ≡ s.models.number + 1
    n = eqb-true _ _ (not_false _ (judge_typed (look_of seen (Typed (Model m))) s (Model m) f.1).model)

    out : s.models.inside ≡ false
    out = (either_none s.models.inside _ (judge_typed (look_of seen (Typed (Model m))) s (Model m) f.1).fence).0
fenced seen s (Typed Endmdl ∷ ls) f = (λ _. rw inside (above _ (next_of s (Typed Endmdl)) ls f.2 s.models.number (inr (refl, refl, le_refl _))), fenced _ (next_of s (Typed Endmdl)) ls f.2)
  where
    inside : s.models.inside ≡ true
    inside = not_false _ (judge_typed (look_of seen (Typed Endmdl)) s Endmdl f.1).fence

pub accepted_fenced : (t : List ℕ) → (check_of t).number ≡ 0 → Fenced no_model (lines_from t 0)
unfolding lines_from start_of
accepted_fenced t e = fenced [] start_of (map line_of (cut t)) (accepted_fine t e)
