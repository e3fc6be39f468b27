-- A slot of the table: the fields of an ATOM, HETATM or TER line, its model, and a mark.
use Rattle.std.specs.Prelude.{◌≤◌, Option, Some, None, Result, Ok, Err, bytes_eq}
use Rattle.ascii.specs.Library.{ℕ, List, Bool, length, eqb, ℤ, pos, byte, pick, both, bytes}
use Rattle.columns.specs.Columns.{clean_at}
use Rattle.fields.specs.declared.{Serial.Serial}
use Rattle.fields.specs.Field.{same_integer}
use Rattle.coordinate.specs.declared.{Atom.Atom, Position.Position}
use Rattle.kinds.specs.declared.{Kind.Kind}
use Rattle.kinds.specs.Kinds.{row_of, kind_of}
use Rattle.ter.specs.declared.{Ter.Ter}
use Rattle.line.specs.declared.{unread.Unread.TheVariants.Wrong, unread.Unread.TheVariants.Untyped}
use Rattle.line.specs.Lines.{Reading, reading_of}
use Rattle.residue.specs.declared.{Residue.Residue}
use Rattle.residue.specs.Residues.{same_residue}
use Rattle.pieces.specs.declared.{Line.Line}
use Rattle.facets.specs.declared.{Spot.Spot, Spot.TheVariants.Site, Spot.TheVariants.Close}
use Rattle.facets.specs.Facets.{spot_of, spot_in}
use Rattle.slots.specs.declared.{Slot.Slot}

-- ---- the bytes of kind and mark
abbrev pub atom_kind : ℕ
atom_kind = 1

abbrev pub hetatm_kind : ℕ
hetatm_kind = 2

abbrev pub ter_kind : ℕ
ter_kind = 3

abbrev pub mark_in : ℕ
mark_in = 0

abbrev pub mark_aside : ℕ
mark_aside = 1

-- the residue of a slot
abbrev pub residue_of : Slot → Residue
residue_of s = record { name = s.residue; chain = s.chain; number = s.number; insertion = s.insertion }

-- ---- the slot of a record, marked in
-- a slot of a model, a kind and a mark: serial, residue, name, alternate letter, coordinates, occupancy, temperature factor, element, charge
abbrev pub slot_with : ℕ → ℕ → ℕ → Serial → Residue → List ℕ → ℕ → Position → ℤ → ℤ → List ℕ → List ℕ → Slot
slot_with model kind mark serial residue name alternate position occupancy temperature element charge =
    record {
      serial = serial;
      number = residue.number;
      position = position;
      occupancy = occupancy;
      temperature = temperature;
      kind = kind;
      mark = mark;
      name = name;
      alternate = alternate;
      residue = residue.name;
      chain = residue.chain;
      insertion = residue.insertion;
      element = element;
      charge = charge;
      model = model;
    }

-- a line by itself is of no model
abbrev pub no_model : ℕ
no_model = 0

abbrev pub slot_of_atom : Bool → Atom → Slot
slot_of_atom het a =
    slot_with no_model (pick het hetatm_kind atom_kind) mark_in a.identity.serial a.identity.residue a.identity.name a.identity.alternate
    a.measure.position (pos a.measure.occupancy) a.measure.temperature a.species.element a.species.charge

-- two blank columns
abbrev pub blank_pair : List ℕ
blank_pair = bytes "  "

-- a slot of which only kind, serial and residue are told: the other fields are 0 or blank
abbrev pub bare_slot : ℕ → Serial → Residue → Slot
bare_slot k serial r =
    slot_with no_model k mark_in serial r (bytes "    ") (byte " ")
    (record { x = pos 0; y = pos 0; z = pos 0 }) (pos 0) (pos 0) blank_pair blank_pair

abbrev pub slot_of_ter : Ter → Slot
slot_of_ter t = bare_slot ter_kind t.serial t.residue

-- a residue of blanks
abbrev pub blank_three : List ℕ
blank_three = bytes "   "

abbrev pub blank_residue : Residue
blank_residue = record { name = blank_three; chain = byte " "; number = record { 0 = pos 0 }; insertion = byte " " }

-- what stands where there is no slot: no line has it
abbrev pub no_slot : Slot
no_slot = bare_slot 0 (record { 0 = 0 }) blank_residue

-- the slot of a line
abbrev pub spot_slot : Option Spot → Slot
spot_slot (Some (Site het a)) = slot_of_atom het a
spot_slot (Some (Close t)) = slot_of_ter t
spot_slot None = no_slot

-- the slot, of another model
abbrev pub with_model : Slot → ℕ → Slot
with_model s m =
    slot_with m s.kind s.mark s.serial (residue_of s) s.name s.alternate
    s.position s.occupancy s.temperature s.element s.charge

-- the slot of a line of a model
abbrev pub line_slot : ℕ → Line → Slot
line_slot m l = with_model (spot_slot (spot_in l)) m

-- ---- the slot of one line read by itself
-- an occupancy that a slot can hold; every line read has one
abbrev pub SmallSpot : Option Spot → Type 0
SmallSpot (Some (Site het a)) = a.measure.occupancy ≤ 2147483647
SmallSpot (Some (Close t)) = Unit {0}
SmallSpot None = Unit {0}

-- 4: a kind other than ATOM, HETATM and TER, and an unknown or carried name
abbrev pub filling_of : Option Spot → Result Slot ℕ
filling_of (Some (Site het a)) = Ok (slot_of_atom het a)
filling_of (Some (Close t)) = Ok (slot_of_ter t)
filling_of None = Err 4

-- the kinds of line that have a slot
abbrev pub has_slot : Kind → Bool
has_slot k = (row_of k).slot

-- what a line reads to, as a coordinate or TER line
abbrev pub spot_read : Reading → Option Spot
spot_read (Ok r) = spot_of r
spot_read (Err (Wrong column)) = None
spot_read (Err Untyped) = None

-- 6: a field or blank column wrong
abbrev pub fill_in : Reading → Result Slot ℕ
fill_in (Ok r) = filling_of (spot_of r)
fill_in (Err (Wrong column)) = Err 6
fill_in (Err Untyped) = Err 4

-- 1, 3, then 4, then 6
unfoldable pub slot_line : List ℕ → Result Slot ℕ
slot_line l =
    pick (eqb (length l) 80)
    (pick (clean_at l 0 80) (pick (has_slot (kind_of l)) (fill_in (reading_of (kind_of l) l)) (Err 4)) (Err 3))
    (Err 1)

-- ---- slots compared, and marked
-- equal coordinates
unfoldable pub same_position : Position → Position → Bool
same_position p q = both (same_integer p.x q.x) (both (same_integer p.y q.y) (same_integer p.z q.z))

-- equal measures: coordinates, occupancy, temperature factor
unfoldable pub same_measures : Slot → Slot → Bool
same_measures s t =
    both (same_position s.position t.position)
    (both (same_integer s.occupancy t.occupancy) (same_integer s.temperature t.temperature))

-- equal names, alternate letters, elements and charges
unfoldable pub same_names : Slot → Slot → Bool
same_names s t =
    both (both (bytes_eq s.name t.name) (eqb s.alternate t.alternate))
    (both (bytes_eq s.element t.element) (bytes_eq s.charge t.charge))

-- equal apart from marks
unfoldable pub same_slot : Slot → Slot → Bool
same_slot s t =
    both (both (eqb s.kind t.kind) (eqb s.serial.0 t.serial.0))
    (both (same_residue (residue_of s) (residue_of t)) (both (same_names s t) (both (same_measures s t) (eqb s.model t.model))))

-- the slot with another mark
unfoldable pub with_mark : Slot → ℕ → Slot
with_mark s m =
    slot_with s.model s.kind m s.serial (residue_of s) s.name s.alternate
    s.position s.occupancy s.temperature s.element s.charge
