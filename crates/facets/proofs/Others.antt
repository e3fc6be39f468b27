-- What the facets say of the records and the lines that they are not about: of each such one the same. Assumes nothing.
use Rattle.std.proofs.Common.{None}
use mathlib.Core.Path.{◌≡◌, refl}
use mathlib.Core.Bool.{Bool}
use Rattle.coordinate.specs.declared.Atom.{Atom}
use Rattle.ter.specs.declared.Ter as ter
use Rattle.helix.specs.declared.Helix as helix
use Rattle.sheet.specs.declared.Sheet as sheet
use Rattle.conect.specs.declared.Conect as conect
use Rattle.master.specs.declared.Tally.{Tally}
use Rattle.model.specs.declared.Model as model
use Rattle.line.specs.declared.Record.{Record}
use Rattle.line.specs.declared.Record.TheVariants.{Coordinate, Ter, Helix, Sheet, Conect, Master, End, Model, Endmdl, Cell, Transform}
use Rattle.pieces.specs.declared.Line.{Line}
use Rattle.pieces.specs.declared.Line.TheVariants.{Bad, Wrong, Carried, Typed}
use Rattle.facets.specs.Facets.{spot_of, bond_of, fold_of, total_of, fence_of, of_line}

-- all but coordinate lines and TER
pub spot_others : (r : Record) → ((het : Bool) (a : Atom) → r ≡ Coordinate het a → ⊥) → ((t : ter.Ter) → r ≡ Ter t → ⊥) → spot_of r ≡ None
spot_others (Coordinate het a) e1 e2 = absurd (e1 het a refl)
spot_others (Ter t) e1 e2 = absurd (e2 t refl)
spot_others (Helix h) e1 e2 = refl
spot_others (Sheet s) e1 e2 = refl
spot_others (Conect c) e1 e2 = refl
spot_others (Master t) e1 e2 = refl
spot_others End e1 e2 = refl
spot_others (Model m) e1 e2 = refl
spot_others Endmdl e1 e2 = refl
spot_others (Cell c) e1 e2 = refl
spot_others (Transform scale axis t) e1 e2 = refl

-- all but CONECT
pub bond_others : (r : Record) → ((c : conect.Conect) → r ≡ Conect c → ⊥) → bond_of r ≡ None
bond_others (Coordinate het a) e = refl
bond_others (Ter t) e = refl
bond_others (Helix h) e = refl
bond_others (Sheet s) e = refl
bond_others (Conect c) e = absurd (e c refl)
bond_others (Master t) e = refl
bond_others End e = refl
bond_others (Model m) e = refl
bond_others Endmdl e = refl
bond_others (Cell c) e = refl
bond_others (Transform scale axis t) e = refl

-- all but HELIX and SHEET
pub fold_others : (r : Record) → ((h : helix.Helix) → r ≡ Helix h → ⊥) → ((s : sheet.Sheet) → r ≡ Sheet s → ⊥) → fold_of r ≡ None
fold_others (Coordinate het a) e1 e2 = refl
fold_others (Ter t) e1 e2 = refl
fold_others (Helix h) e1 e2 = absurd (e1 h refl)
fold_others (Sheet s) e1 e2 = absurd (e2 s refl)
fold_others (Conect c) e1 e2 = refl
fold_others (Master t) e1 e2 = refl
fold_others End e1 e2 = refl
fold_others (Model m) e1 e2 = refl
fold_others Endmdl e1 e2 = refl
fold_others (Cell c) e1 e2 = refl
fold_others (Transform scale axis t) e1 e2 = refl

-- all but MASTER
pub total_others : (r : Record) → ((t : Tally) → r ≡ Master t → ⊥) → total_of r ≡ None
total_others (Coordinate het a) e = refl
total_others (Ter t) e = refl
total_others (Helix h) e = refl
total_others (Sheet s) e = refl
total_others (Conect c) e = refl
total_others (Master t) e = absurd (e t refl)
total_others End e = refl
total_others (Model m) e = refl
total_others Endmdl e = refl
total_others (Cell c) e = refl
total_others (Transform scale axis t) e = refl

-- all but MODEL and ENDMDL
pub fence_others : (r : Record) → ((m : model.Model) → r ≡ Model m → ⊥) → (r ≡ Endmdl → ⊥) → fence_of r ≡ None
fence_others (Coordinate het a) e1 e2 = refl
fence_others (Ter t) e1 e2 = refl
fence_others (Helix h) e1 e2 = refl
fence_others (Sheet s) e1 e2 = refl
fence_others (Conect c) e1 e2 = refl
fence_others (Master t) e1 e2 = refl
fence_others End e1 e2 = refl
fence_others (Model m) e1 e2 = absurd (e1 m refl)
fence_others Endmdl e1 e2 = absurd (e2 refl)
fence_others (Cell c) e1 e2 = refl
fence_others (Transform scale axis t) e1 e2 = refl

pub line_others : {A : Type 0} (none : A) (f : Record → A) (l : Line) → ((r : Record) → l ≡ Typed r → ⊥) → of_line none f l ≡ none
line_others none f (Bad n) e = refl
line_others none f (Wrong k column) e = refl
line_others none f (Carried k) e = refl
line_others none f (Typed r) e = absurd (e r refl)
