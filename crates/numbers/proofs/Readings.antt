-- A number that was answered is the one that stands there.
-- Assumes nothing.
use mathlib.Core.Path.{◌≡◌, refl}
use mathlib.Core.Bool.{Bool, true, false}
use Rattle.std.specs.Prelude.{Option, Some, None}
use Rattle.numbers.specs.declared.Number.{Number}
use Rattle.numbers.specs.declared.Decimal.{Decimal}
use Rattle.numbers.specs.Number.{given}

pub given_some : (d : Decimal) (h : Number) → Some d ≡ given h → (h.good ≡ true) × (h.minus ≡ d.minus) × (h.mag ≡ d.mag)
given_some d h e = go h.good refl e
  where
    go : (g : Bool) → h.good ≡ g → Some d ≡ given h → (h.good ≡ true) × (h.minus ≡ d.minus) × (h.mag ≡ d.mag)
    go true t e = let q : Some d ≡ Some (record { minus = h.minus; mag = h.mag }) = rw t at e in (t, cc, cc)
    go false t e = let q : Some d ≡ None = rw t at e in cc

abbrev none_given : Option Decimal
none_given = None

pub given_none : (h : Number) → none_given ≡ given h → h.good ≡ false
given_none h e = go h.good refl e
  where
    go : (g : Bool) → h.good ≡ g → none_given ≡ given h → h.good ≡ false
    go true t e = let q : none_given ≡ Some (record { minus = h.minus; mag = h.mag }) = rw t at e in cc
    go false t e = t
