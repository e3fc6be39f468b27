-- Orders one after the other, granted and refused.
use Rattle.std.specs.Prelude.{◌∷◌}
use Rattle.ascii.specs.Library.{ℕ, List, [], Bool, eqb, pick, both}
use Rattle.fields.specs.declared.{FragmentNumber.FragmentNumber}
use Rattle.slots.specs.declared.{Slot.Slot}
use Rattle.table.specs.Table.{order_of}

-- an order: the number of a fragment, and whether to set it aside or to put it back
pub data Order : Type 0 where
  order : FragmentNumber → Bool → Order

-- the table after the orders
unfoldable pub orders_of : List ℕ → List Slot → List Order → List Slot
orders_of t xs [] = xs
orders_of t xs (order f aside ∷ os) = orders_of t (order_of t xs f aside).left os

-- whether the last order granted for fragment f set it aside; now, where there is none
unfoldable pub last_of : List ℕ → List Slot → FragmentNumber → Bool → List Order → Bool
last_of t xs f now [] = now
last_of t xs f now (order g aside ∷ os) =
    last_of t (order_of t xs g aside).left f (pick (both (eqb g.0 f.0) (eqb (order_of t xs g aside).number 0)) aside now) os
