-- Whether a slot fits a line.
-- Assumes nothing.
use Prim.Native.Nat.{ℕ}
use mathlib.Core.Bool.{Bool, true, false}
use mathlib.Core.Path.{◌≡◌, sym, ◌∙◌}
use lib.Dec.{leb}
use Rattle.ascii.specs.Tests.{both}
use Rattle.pieces.specs.declared.Line.{Line}
use Rattle.facets.specs.Facets.{is_coord}
use Rattle.slots.specs.declared.Slot.{Slot}
use Rattle.slots.specs.Slots.{mark_aside, line_slot, same_slot}
use Rattle.table.specs.Table.{fits}

module _ (s : Slot) (m : ℕ) (l : Line) (a : Bool) (ea : a ≡ is_coord l) where
  pub fits_spot : a ≡ true → (u : Slot) → u ≡ line_slot m l → (q : Bool) → q ≡ same_slot s u → (r : Bool) → r ≡ both (leb s.mark mark_aside) q → r ≡ fits s m l
  unfolding fits
  fits_spot t u eu q eq r er = er ∙ rw (sym ea ∙ t, eq, eu)

  pub fits_any : a ≡ false → true ≡ fits s m l
  unfolding fits
  fits_any f = rw (sym ea ∙ f)
