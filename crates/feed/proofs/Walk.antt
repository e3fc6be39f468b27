-- The walk over the slots: what is still to come, taken in from here, gives the bounds of them all.
-- Assumes nothing.
use mathlib.Core.Path.{◌≡◌, ap, ◌∙◌}
use mathlib.Core.List.{List}
use Prim.Native.Nat.{ℕ, ◌+◌, ◌≤◌, ◌<◌}
use native.Mathlib.Numerals.{add-one}
use lib.ListN.{length, drop, get_or, drop_of_length-le}
use lib.Seq.{drop-cons}
use Rattle.slots.specs.declared.Slot.{Slot}
use Rattle.slots.specs.Slots.{no_slot}
use Rattle.feed.specs.declared.Bounds.{Bounds}
use Rattle.feed.specs.declared.Extent.{Extent}
use Rattle.std.specs.Prelude.{Option, Result}
use Rattle.feed.specs.Frame.{no_bounds, taken_in, bounds_from, framed_of, frame_of}

pub walk_start : (xs : List Slot) (b : Option Bounds) → b ≡ no_bounds → bounds_from b (drop 0 xs) ≡ bounds_from no_bounds xs
walk_start xs b e = rw e

pub walk_turn : (xs : List Slot) (b r all : Option Bounds) (i : ℕ) → i < length xs → r ≡ taken_in b (get_or xs i no_slot)
    → bounds_from b (drop i xs) ≡ all → bounds_from r (drop (i + 1) xs) ≡ all
unfolding bounds_from
walk_turn xs b r all i h e q = rw (e, add-one) (rw (drop-cons xs i no_slot h) at q)

pub walk_end : (xs : List Slot) (b : Option Bounds) (i : ℕ) (r : Result Extent ℕ) → length xs ≤ i → bounds_from b (drop i xs) ≡ bounds_from no_bounds xs
    → r ≡ framed_of b → r ≡ frame_of xs
unfolding bounds_from
walk_end xs b i r h q e = e ∙ ap framed_of (rw (drop_of_length-le xs h) at q)
