-- What is promised of drawings and frames beyond their definitions: the statements. They are proved in proofs/.
use Rattle.ascii.specs.Library.{ℕ, true, List, [], ℤ, nat_abs}
use Rattle.std.specs.Prelude.{◌<◌, ◌≤◌, ◌≡◌, ◌⊎◌, ◌∷◌, ◌≤ℤ◌, ◌^◌, T, Float, Option, Some, None, Ok, Err}
use Rattle.std.specs.Float.{binary64}
use Rattle.std.specs.Float.Ieee.{fits}
use Rattle.std.specs.Float.Ieee.Exact.{HasValue}
use Rattle.fields.specs.Field.{is_neg}
use Rattle.slots.specs.declared.{Slot.Slot}
use Rattle.feed.specs.declared.{Span.Span, Bounds.Bounds, Extent.Extent}
use Rattle.feed.specs.Exact.{exactly}
use Rattle.feed.specs.Feed.{is_drawn, dot_of, stroke_of}
use Rattle.feed.specs.Frame.{extent_of, frame_of}

-- two slots that agree on kind, mark and coordinates
pub record Alike (s t : Slot) : Type 0 where
  pub kind : s.kind ≡ t.kind
  pub mark : s.mark ≡ t.mark
  pub position : s.position ≡ t.position

-- a slot that stands among some
abbrev pub Among : List Slot → Slot → Type 0
Among [] a = ⊥
Among (s ∷ ss) a = (a ≡ s) ⊎ Among ss a

-- one that is drawn
abbrev pub DrawnAmong : List Slot → Slot → Type 0
DrawnAmong ss a = Among ss a × (is_drawn a ≡ true)

-- ---- the axes
abbrev pub at_x : Slot → ℤ
at_x s = s.position.x

abbrev pub at_y : Slot → ℤ
at_y s = s.position.y

abbrev pub at_z : Slot → ℤ
at_z s = s.position.z

-- one of some slots is there
pub record Reached (P : Slot → Type 0) (axis : Slot → ℤ) (n : ℤ) : Type 0 where
  pub slot : Slot
  pub one : P slot
  pub there : axis slot ≡ n

-- lowest and highest bound each of them, and each is reached by one
pub record Tight (P : Slot → Type 0) (axis : Slot → ℤ) (s : Span) : Type 0 where
  pub above : (a : Slot) → P a → s.low ≤ℤ axis a
  pub below : (a : Slot) → P a → axis a ≤ℤ s.high
  pub lowest : Reached P axis s.low
  pub highest : Reached P axis s.high

-- so on all three axes
pub record TightAll (P : Slot → Type 0) (b : Bounds) : Type 0 where
  pub x : Tight P at_x b.x
  pub y : Tight P at_y b.y
  pub z : Tight P at_z b.z

-- where there is a slot at all
abbrev pub Bounding : (P : Slot → Type 0) → Option Bounds → Type 0
Bounding P None = (a : Slot) → P a → ⊥
Bounding P (Some b) = TightAll P b

-- the frame is of such bounds
pub record Framing (ss : List Slot) (e : Extent) : Type 0 where
  pub bounds : Bounds
  pub made : e ≡ extent_of bounds
  pub bounding : Bounding (DrawnAmong ss) (Some bounds)

-- ---- all of it
pub record Promises : Type 0 where
  -- what is drawn depends on nothing but kind, mark and coordinates
  pub dots : (s t : Slot) → Alike s t → dot_of s ≡ dot_of t
  pub strokes : (a b c d : Slot) → Alike a c → Alike b d → stroke_of a b ≡ stroke_of c d
  -- `exactly z l` has the value z / 2 ^ l, and no other double has
  pub value : (z : ℤ) (l : ℕ) → HasValue (exactly z l) (is_neg z) (nat_abs z) (2 ^ l)
  pub only : (x : Float) (z : ℤ) (l : ℕ) → nat_abs z < 2 ^ 53 → l ≤ 1074 → T (fits binary64 x) → HasValue x (is_neg z) (nat_abs z) (2 ^ l)
      → x ≡ exactly z l
  -- lowest and highest bound every atom that is drawn, and each is reached by one
  pub framed : (ss : List Slot) (e : Extent) → frame_of ss ≡ Ok e → Framing ss e
  -- 19 exactly where no atom is drawn
  pub refused : (ss : List Slot) → frame_of ss ≡ Err 19 → (a : Slot) → DrawnAmong ss a → ⊥
  pub none_drawn : (ss : List Slot) → ((a : Slot) → DrawnAmong ss a → ⊥) → frame_of ss ≡ Err 19
  -- slots in another order, or twice, have the same frame
  pub order_free : (xs ys : List Slot) → ((a : Slot) → Among xs a → Among ys a) → ((a : Slot) → Among ys a → Among xs a)
      → frame_of xs ≡ frame_of ys
