-- The frame of the drawn atoms among some slots: lowest, highest and middle on each axis.
use Rattle.ascii.specs.Library.{ℕ, List, [], ℤ, lt_z, pick}
use Rattle.std.specs.Prelude.{◌∷◌, ◌+ℤ◌, Float, Option, Some, None, Result, Ok, Err}
use Rattle.coordinate.specs.declared.{Position.Position}
use Rattle.slots.specs.declared.{Slot.Slot}
use Rattle.feed.specs.declared.{Span.Span, Bounds.Bounds, Extent.Extent}
use Rattle.feed.specs.Exact.{whole, half}
use Rattle.feed.specs.Feed.{is_drawn}

-- the lower and the higher of two
unfoldable pub lower : ℤ → ℤ → ℤ
lower a b = pick (lt_z b a) b a

unfoldable pub higher : ℤ → ℤ → ℤ
higher a b = pick (lt_z a b) b a

-- ---- one axis
-- one atom
abbrev pub at : ℤ → Span
at n = record { low = n; high = n }

-- one atom more
unfoldable pub widened : Span → ℤ → Span
widened s n = record { low = lower s.low n; high = higher s.high n }

-- half of lowest plus highest: exact in half thousandths
abbrev pub middle_of : Span → Float
middle_of s = half (s.low +ℤ s.high)

-- ---- three axes
-- nothing drawn so far
abbrev pub no_bounds : Option Bounds
no_bounds = None

-- the bounds with one atom more
abbrev pub around : Option Bounds → Position → Bounds
around None p = record { x = at p.x; y = at p.y; z = at p.z }
around (Some b) p = record { x = widened b.x p.x; y = widened b.y p.y; z = widened b.z p.z }

-- a slot that is not drawn changes nothing
unfoldable pub taken_in : Option Bounds → Slot → Option Bounds
taken_in b s = pick (is_drawn s) (Some (around b s.position)) b

-- the slots taken in from the first on
unfoldable pub bounds_from : Option Bounds → List Slot → Option Bounds
bounds_from b [] = b
bounds_from b (s ∷ ss) = bounds_from (taken_in b s) ss

-- the bounds in doubles
abbrev pub extent_of : Bounds → Extent
extent_of b =
    record {
      lx = whole b.x.low;
      ly = whole b.y.low;
      lz = whole b.z.low;
      hx = whole b.x.high;
      hy = whole b.y.high;
      hz = whole b.z.high;
      mx = middle_of b.x;
      my = middle_of b.y;
      mz = middle_of b.z;
    }

-- 19: no atom is drawn
unfoldable pub framed_of : Option Bounds → Result Extent ℕ
framed_of None = Err 19
framed_of (Some b) = Ok (extent_of b)

-- the frame of some slots
abbrev pub frame_of : List Slot → Result Extent ℕ
frame_of ss = framed_of (bounds_from no_bounds ss)
