-- Looking ahead in an accepted text: a run that no TER closes any more holds no ATOM, and past the coordinate lines no run is closed.
-- Assumes nothing.
use Rattle.gate.specs.Gate.{look_of}
use Prim.Native.Nat.{ℕ, ◌≤◌, ◌<◌}
use mathlib.Core.List.{List, [], ◌∷◌}
use mathlib.Core.Bool.{Bool, true, false, not}
use mathlib.Core.Path.{◌≡◌, refl, sym, ◌∙◌, ap}
use mathlib.Core.Logic.{inl, ⊎_elim}
use native.Mathlib.Omega.{arith}
use Rattle.rules.specs.declared.Looked.{Looked}
use Rattle.ascii.specs.Tests.{pick, either}
use Rattle.ascii.proofs.Choice.{never, either_none}
use Rattle.kinds.specs.declared.Kind.TheVariants as kind
use Rattle.kinds.specs.Kinds.{row_of}
use Rattle.line.specs.declared.Record.{Record}
use Rattle.line.specs.declared.Record.TheVariants.{Coordinate, Ter, Helix, Sheet, Conect, Master, End, Model, Endmdl, Cell, Transform}
use Rattle.pieces.specs.declared.Line.{Line}
use Rattle.pieces.specs.declared.Line.TheVariants.{Bad, Wrong, Carried, Typed}
use Rattle.rules.specs.declared.Run.{Run}
use Rattle.rules.specs.declared.State.{State}
use Rattle.places.specs.Places.{place_bad, coordinate_place, end_place}
use Rattle.rules.specs.Rules.{no_run, site_next, judge_of, carried_next, typed_next, next_of}
use Rattle.places.proofs.Laws.{place_high}
use Rattle.rules.proofs.Laws.{Good, judge_typed, judge_carried, judge_bad, judge_wrong}
use Rattle.serials.specs.Search.{Before}
use Rattle.table.proofs.Plain.{Plain, cell_front, transform_front}
use Rattle.table.proofs.Fine.{Fine}
use Rattle.table.proofs.Paired.{closes}

-- ---- the place of ATOM and of HETATM is one
pub site_here : (het : Bool) → (row_of (pick het kind.Hetatm kind.Atom)).here ≡ coordinate_place
site_here true = refl
site_here false = refl

pub site_place : (p : ℕ) (het : Bool) → place_bad p (pick het kind.Hetatm kind.Atom) ≡ place_bad p kind.Atom
unfolding place_bad
site_place p true = refl
site_place p false = refl

-- a place among the coordinate lines or after them is not before them
pub not_before : (p : ℕ) → coordinate_place ≤ p → p ≤ end_place → Before p → ⊥
not_before p h g b = ⊎_elim (λ x. omega arith) (λ x. omega arith) b

-- ---- what every state on the way has: no run before the coordinate lines, none open after them
pub record Sane (s : State) : Type 0 where
  pub early : Before s.place → s.run ≡ no_run
  pub late : coordinate_place < s.place → s.place ≤ end_place → s.run.atom ≡ false

sane_here : (t : State) → t.place ≡ coordinate_place → Sane t
sane_here t e = record { early = λ b. absurd (not_before t.place (omega arith) (omega arith) b); late = λ h g. absurd (omega arith) }

sane_after : (t : State) → coordinate_place ≤ t.place → t.place ≤ end_place → t.run.atom ≡ false → Sane t
sane_after t h g e = record { early = λ b. absurd (not_before t.place h g b); late = λ x y. e }

sane_before : (t : State) → t.run ≡ no_run → Sane t
sane_before t e = record { early = λ b. e; late = λ h g. ap (λ (r : Run). r.atom) e }

sane_typed : (known : Looked) (s : State) (r : Record) → Sane s → Good known s r → Sane (typed_next s r)
unfolding typed_next
sane_typed known s (Coordinate het a) S g = sane_here _ (site_here het)
sane_typed known s (Ter t) S g = sane_here _ refl
sane_typed known s (Helix h) S g = sane_before _ (S.early (inl (omega (arith, place_high s.place kind.Helix g.place))))
sane_typed known s (Sheet h) S g = sane_before _ (S.early (inl (omega (arith, place_high s.place kind.Sheet g.place))))
sane_typed known s (Conect c) S g = sane_after _ (omega arith) (omega arith) g.run
sane_typed known s (Master t) S g = sane_after _ (omega arith) (omega arith) g.run
sane_typed known s End S g = sane_after _ (omega arith) (omega arith) g.run
sane_typed known s (Model m) S g = sane_here _ refl
sane_typed known s Endmdl S g = sane_here _ refl
sane_typed known s (Cell c) S g = sane_before _ (S.early (cell_front.after s.place g.place))
sane_typed known s (Transform scale axis t) S g = sane_before _ (S.early ((transform_front scale axis).after s.place g.place))

pub sane_next : (known : Looked) (s : State) (l : Line) → Sane s → Plain l → judge_of known s l ≡ 0 → Sane (next_of s l)
unfolding next_of carried_next judge_of
sane_next known s (Bad n) S p e = absurd (judge_bad known s n e)
sane_next known s (Wrong k column) S p e = absurd (judge_wrong known s k column e)
sane_next known s (Carried k) S p e = sane_before _ (S.early (p.after s.place (judge_carried known s k e).0))
sane_next known s (Typed r) S p e = sane_typed known s r S (judge_typed known s r e)

-- ---- past the coordinate lines nothing closes a run
pub no_close : (seen : List Line) (s : State) (ls : List Line) → Fine seen s ls → coordinate_place < s.place → s.place ≤ end_place → closes ls ≡ false
unfolding next_of typed_next judge_of closes either
no_close seen s [] f h g = refl
no_close seen s (Bad n ∷ ls) f h g = absurd (judge_bad (look_of seen (Bad n)) s n f.1)
no_close seen s (Wrong k column ∷ ls) f h g = absurd (judge_wrong (look_of seen (Wrong k column)) s k column f.1)
no_close seen s (Carried k ∷ ls) f h g = absurd (not_before s.place (omega arith) g (f.0.after s.place (judge_carried (look_of seen (Carried k)) s k f.1).0))
no_close seen s (Typed (Coordinate het a) ∷ ls) f h g =
    let q : place_bad s.place kind.Atom ≡ false = sym (site_place s.place het) ∙ (judge_typed _ s _ f.1).place in
    absurd (omega (arith, place_high s.place kind.Atom q))
no_close seen s (Typed (Ter t) ∷ ls) f h g = absurd (omega (arith, place_high s.place kind.Ter (judge_typed _ s _ f.1).place))
no_close seen s (Typed (Helix x) ∷ ls) f h g = absurd (omega (arith, place_high s.place kind.Helix (judge_typed _ s _ f.1).place))
no_close seen s (Typed (Sheet x) ∷ ls) f h g = absurd (omega (arith, place_high s.place kind.Sheet (judge_typed _ s _ f.1).place))
no_close seen s (Typed (Conect c) ∷ ls) f h g = no_close _ (next_of s (Typed (Conect c))) ls f.2 (omega arith) (omega arith)
no_close seen s (Typed (Master t) ∷ ls) f h g = no_close _ (next_of s (Typed (Master t))) ls f.2 (omega arith) (omega arith)
no_close seen s (Typed End ∷ ls) f h g = no_close _ (next_of s (Typed End)) ls f.2 (omega arith) (omega arith)
no_close seen s (Typed (Model m) ∷ ls) f h g = refl
no_close seen s (Typed Endmdl ∷ ls) f h g = refl
no_close seen s (Typed (Cell c) ∷ ls) f h g = absurd (not_before s.place (omega arith) g (cell_front.after s.place (judge_typed _ s _ f.1).place))
no_close seen s (Typed (Transform scale axis t) ∷ ls) f h g = absurd (not_before s.place (omega arith) g ((transform_front scale axis).after s.place (judge_typed _ s _ f.1).place))

-- ---- a run that is not closed holds no ATOM
pub no_atom : (seen : List Line) (s : State) (ls : List Line) → Sane s → Fine seen s ls → closes ls ≡ false → s.run.atom ≡ false
unfolding next_of typed_next judge_of closes either site_next
no_atom seen s [] S f c = S.late (omega arith) (omega arith)
no_atom seen s (Bad n ∷ ls) S f c = absurd (judge_bad (look_of seen (Bad n)) s n f.1)
no_atom seen s (Wrong k column ∷ ls) S f c = absurd (judge_wrong (look_of seen (Wrong k column)) s k column f.1)
no_atom seen s (Carried k ∷ ls) S f c = ap (λ (r : Run). r.atom) (S.early (f.0.after s.place (judge_carried (look_of seen (Carried k)) s k f.1).0))
no_atom seen s (Typed (Coordinate het a) ∷ ls) S f c =
    (either_none s.run.atom (not het) (no_atom _ (next_of s (Typed (Coordinate het a))) ls (sane_next _ s (Typed (Coordinate het a)) S f.0 f.1) f.2 c)).0
no_atom seen s (Typed (Ter t) ∷ ls) S f c = never (sym c)
no_atom seen s (Typed (Helix x) ∷ ls) S f c = (judge_typed _ s _ f.1).run
no_atom seen s (Typed (Sheet x) ∷ ls) S f c = (judge_typed _ s _ f.1).run
no_atom seen s (Typed (Conect d) ∷ ls) S f c = (judge_typed _ s _ f.1).run
no_atom seen s (Typed (Master t) ∷ ls) S f c = (judge_typed _ s _ f.1).run
no_atom seen s (Typed End ∷ ls) S f c = (judge_typed _ s _ f.1).run
no_atom seen s (Typed (Model m) ∷ ls) S f c = (judge_typed _ s _ f.1).run
no_atom seen s (Typed Endmdl ∷ ls) S f c = (judge_typed _ s _ f.1).run
no_atom seen s (Typed (Cell x) ∷ ls) S f c = (judge_typed _ s _ f.1).run
no_atom seen s (Typed (Transform scale axis x) ∷ ls) S f c = (judge_typed _ s _ f.1).run

-- in the open tail every coordinate line is a HETATM
pub tail_het : (seen : List Line) (s : State) (r : Run) (het : Bool) (ls : List Line) → Sane s → Fine seen s ls → s.run.atom ≡ either r.atom (not het) → closes ls ≡ false → not het ≡ false
tail_het seen s r het ls S f e c = (either_none r.atom (not het) (sym e ∙ no_atom seen s ls S f c)).1
