-- All fragments at once: what their numbers are, and that arranging them is giving orders. It is proved in proofs/.
use Rattle.std.specs.Prelude.{◌+◌, ◌<◌, ◌∷◌, ◌≡◌}
use Rattle.ascii.specs.Library.{ℕ, List, [], not, length, get_or, eqb}
use Rattle.slots.specs.declared.{Slot.Slot}
use Rattle.table.specs.Table.{loaded_of, fragments_of, arrange_of}
use Rattle.table.specs.Orders.{Order, order, orders_of}
use Rattle.table.specs.Promise.{fragment_of}

-- an order for each fragment from f on: 0 puts it back, any other byte sets it aside
unfoldable pub orders_for : ℕ → List ℕ → List Order
orders_for f [] = []
orders_for f (b ∷ bs) = order (record { 0 = f }) (not (eqb b 0)) ∷ orders_for (f + 1) bs

-- arranging the fragments leaves the table that these orders leave, one after the other
pub record AsOrdered (t : List ℕ) (xs : List Slot) (bs : List ℕ) : Type 0 where
  pub left : (arrange_of t xs bs).number ≡ 0 → (arrange_of t xs bs).left ≡ orders_of t xs (orders_for 1 bs)

-- the number told of slot j is that of its fragment
pub record Numbered (t : List ℕ) (xs : List Slot) (o : List ℕ) : Type 0 where
  pub at : (fragments_of t xs o).number ≡ 0 → (j : ℕ) → j < length (loaded_of t) → get_or (fragments_of t xs o).left j 0 ≡ (fragment_of t xs j).0
