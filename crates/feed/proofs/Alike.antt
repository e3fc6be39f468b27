-- What is drawn depends on nothing but kind, mark and coordinates.
-- Assumes nothing.
use mathlib.Core.Path.{◌≡◌}
use Rattle.std.specs.Prelude.{Option}
use Rattle.slots.specs.declared.Slot.{Slot}
use Rattle.feed.specs.declared.Bounds.{Bounds}
use Rattle.feed.specs.Feed.{is_drawn, dot_of, stroke_of}
use Rattle.feed.specs.Frame.{taken_in}
use Rattle.feed.specs.Promise.{Alike}

drawn_alike : (s t : Slot) → Alike s t → is_drawn s ≡ is_drawn t
unfolding is_drawn
drawn_alike s t e = rw (e.kind, e.mark)

pub dot_alike : (s t : Slot) → Alike s t → dot_of s ≡ dot_of t
unfolding dot_of
dot_alike s t e = rw (drawn_alike s t e, e.position)

pub stroke_alike : (a b c d : Slot) → Alike a c → Alike b d → stroke_of a b ≡ stroke_of c d
unfolding stroke_of
stroke_alike a b c d e f = rw (drawn_alike a c e, drawn_alike b d f, e.position, f.position)

pub take_alike : (b : Option Bounds) (s t : Slot) → Alike s t → taken_in b s ≡ taken_in b t
unfolding taken_in
take_alike b s t e = rw (drawn_alike s t e, e.position)
