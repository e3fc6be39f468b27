-- The facets of a line: what it is to each family of rules. A rule looks at its facet alone.
use Rattle.std.specs.Prelude.{Option, Some, None}
use Rattle.ascii.specs.Library.{Bool, true, false}
use Rattle.coordinate.specs.Atoms.{coordinate_kind}
use Rattle.kinds.specs.declared.{Kind.Kind}
use Rattle.transform.specs.Transforms.{transform_kind}
use Rattle.line.specs.declared.{Record.Record}
use Rattle.line.specs.declared.Record.TheVariants.{Coordinate, Ter, Helix, Sheet, Conect, Master, End, Model, Endmdl, Cell, Transform}
use Rattle.pieces.specs.declared.{Line.Line, Line.TheVariants.Bad, Line.TheVariants.Wrong, Line.TheVariants.Carried, Line.TheVariants.Typed}
use Rattle.facets.specs.declared.{Spot.Spot, Spot.TheVariants.Site, Spot.TheVariants.Close, Fold.Fold, Fold.TheVariants.Turn, Fold.TheVariants.Rung, Fence.Fence, Fence.TheVariants.Opens, Fence.TheVariants.Shuts}
use Rattle.conect.specs.declared.Conect as conect
use Rattle.kinds.specs.declared.Kind.TheVariants as kind
use Rattle.master.specs.declared.{Tally.Tally}

-- the facets of a record: its kind; ATOM, HETATM or TER; CONECT; HELIX or SHEET; MASTER; MODEL or ENDMDL
pub record Facets : Type 0 where
  pub kind : Kind
  pub spot : Option Spot
  pub bond : Option conect.Conect
  pub fold : Option Fold
  pub total : Option Tally
  pub fence : Option Fence

abbrev pub facets : Kind → Option Spot → Option conect.Conect → Option Fold → Option Tally → Option Fence → Facets
facets k s b f t e = record { kind = k; spot = s; bond = b; fold = f; total = t; fence = e }

abbrev pub facets_of : Record → Facets
facets_of (Coordinate het a) = facets (coordinate_kind het) (Some (Site het a)) None None None None
facets_of (Ter t) = facets kind.Ter (Some (Close t)) None None None None
facets_of (Helix h) = facets kind.Helix None None (Some (Turn h.extent.serial)) None None
facets_of (Sheet s) = facets kind.Sheet None None (Some (Rung s.strand)) None None
facets_of (Conect c) = facets kind.Conect None (Some c) None None None
facets_of (Master t) = facets kind.Master None None None (Some t) None
facets_of End = facets kind.End None None None None None
facets_of (Model m) = facets kind.Model None None None None (Some (Opens m.number))
facets_of Endmdl = facets kind.Endmdl None None None None (Some Shuts)
facets_of (Cell c) = facets kind.Cryst1 None None None None None
facets_of (Transform scale axis t) = facets (transform_kind scale axis) None None None None None

-- one of them
abbrev pub record_kind : Record → Kind
record_kind r = (facets_of r).kind

abbrev pub spot_of : Record → Option Spot
spot_of r = (facets_of r).spot

abbrev pub bond_of : Record → Option conect.Conect
bond_of r = (facets_of r).bond

abbrev pub fold_of : Record → Option Fold
fold_of r = (facets_of r).fold

abbrev pub total_of : Record → Option Tally
total_of r = (facets_of r).total

abbrev pub fence_of : Record → Option Fence
fence_of r = (facets_of r).fence

-- ---- the same of a line: a line that is not typed has none
abbrev pub of_line : {A : Type 0} → A → (Record → A) → Line → A
of_line none f (Bad n) = none
of_line none f (Wrong k column) = none
of_line none f (Carried k) = none
of_line none f (Typed r) = f r

abbrev pub spot_in : Line → Option Spot
spot_in l = of_line None spot_of l

abbrev pub bond_in : Line → Option conect.Conect
bond_in l = of_line None bond_of l

abbrev pub total_in : Line → Option Tally
total_in l = of_line None total_of l

abbrev pub fence_in : Line → Option Fence
fence_in l = of_line None fence_of l

-- the kind of a line; a piece that is refused by itself has none
abbrev pub line_kind : Line → Kind
line_kind (Bad n) = kind.Unknown
line_kind (Wrong k column) = k
line_kind (Carried k) = k
line_kind (Typed r) = record_kind r

-- an ATOM, HETATM or TER line
abbrev pub is_spot : Option Spot → Bool
is_spot (Some p) = true
is_spot None = false

abbrev pub is_coord : Line → Bool
is_coord l = is_spot (spot_in l)

-- a MODEL or ENDMDL line
abbrev pub is_bound : Option Fence → Bool
is_bound (Some e) = true
is_bound None = false

abbrev pub is_fence : Line → Bool
is_fence l = is_bound (fence_in l)
