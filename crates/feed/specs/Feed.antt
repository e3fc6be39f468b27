-- What the renderer is handed for a slot and for a pair of slots: thousandths, as doubles.
use Rattle.ascii.specs.Library.{Bool, eqb, pick, both, either}
use Rattle.std.specs.Prelude.{Option, Some, None}
use Rattle.coordinate.specs.declared.{Position.Position}
use Rattle.slots.specs.declared.{Slot.Slot}
use Rattle.slots.specs.Slots.{atom_kind, hetatm_kind, mark_in}
use Rattle.feed.specs.declared.{Point.Point, Ends.Ends}
use Rattle.feed.specs.Exact.{whole}

-- an ATOM or HETATM that is in; a TER, a slot set aside and a damaged one are not drawn
unfoldable pub is_drawn : Slot → Bool
is_drawn s = both (eqb s.mark mark_in) (either (eqb s.kind atom_kind) (eqb s.kind hetatm_kind))

-- coordinates in doubles
abbrev pub point_of : Position → Point
point_of p = record { x = whole p.x; y = whole p.y; z = whole p.z }

-- a drawn atom is a dot at its coordinates
unfoldable pub dot_of : Slot → Option Point
dot_of s = pick (is_drawn s) (Some (point_of s.position)) None

-- two drawn atoms are a stroke from the one to the other
unfoldable pub stroke_of : Slot → Slot → Option Ends
stroke_of a b = pick (both (is_drawn a) (is_drawn b)) (Some (record { from = point_of a.position; to = point_of b.position })) None
