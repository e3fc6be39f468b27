-- The lines of the saved entry, as typed lines.
-- Assumes nothing.
use Prim.Native.Nat.{ℕ, ◌+◌}
use mathlib.Core.List.{List, [], ◌∷◌}
use mathlib.Core.Bool.{Bool, true, false}
use mathlib.Core.Path.{◌≡◌}
use native.Mathlib.Nat.{add-zero}
use Rattle.ascii.specs.Tests.{pick}
use Rattle.pieces.specs.declared.Line.{Line}
use Rattle.places.specs.declared.Counts.{Counts}
use Rattle.places.specs.Counts.{count_at, raised}
use Rattle.facets.specs.Facets.{is_coord}
use Rattle.slots.specs.declared.Slot.{Slot}
use Rattle.table.specs.Table.{one_of}
use Rattle.facets.specs.Facets.{line_kind}
use Rattle.table.specs.Deal.{stays, past_next, counted}
use Rattle.table.proofs.Recount.{recounted}
use Rattle.table.proofs.Paired.{in_slot, Paired}

-- the lines that stay, after j slots, the lines kept before them counted q
unfoldable pub saved_lines : List Slot → ℕ → Bool → Counts → List Line → List Line
saved_lines xs j past q [] = []
saved_lines xs j past q (l ∷ ls) =
    pick (stays xs j l)
    (recounted q l ∷ saved_lines xs (j + one_of l) (past_next past l) (counted (stays xs j l) past q l) ls)
    (saved_lines xs (j + one_of l) (past_next past l) (counted (stays xs j l) past q l) ls)

module _ (xs : List Slot) (j : ℕ) (past : Bool) (q : Counts) (l : Line) (ls : List Line) where
  -- a coordinate line that is in, and one that is set aside
  pub saved_in : is_coord l ≡ true → in_slot xs j ≡ true
      → saved_lines xs j past q (l ∷ ls) ≡ recounted q l ∷ saved_lines xs (j + 1) (past_next past l) (raised q (count_at past (line_kind l))) ls
  unfolding saved_lines stays counted
  saved_in c i = rw (c, i)

  pub saved_out : is_coord l ≡ true → in_slot xs j ≡ false → saved_lines xs j past q (l ∷ ls) ≡ saved_lines xs (j + 1) (past_next past l) q ls
  unfolding saved_lines stays counted
  saved_out c i = rw (c, i)

  -- any other line, where it stays and where it goes
  pub saved_stay : is_coord l ≡ false → stays xs j l ≡ true
      → saved_lines xs j past q (l ∷ ls) ≡ recounted q l ∷ saved_lines xs j (past_next past l) (raised q (count_at past (line_kind l))) ls
  unfolding saved_lines counted
  saved_stay c i = rw (i, c, add-zero j)

  pub saved_skip : is_coord l ≡ false → stays xs j l ≡ false → saved_lines xs j past q (l ∷ ls) ≡ saved_lines xs j (past_next past l) q ls
  unfolding saved_lines counted
  saved_skip c i = rw (i, c, add-zero j)

-- the slots beside the lines after this one
pub paired_site : (xs : List Slot) (j : ℕ) (l : Line) (ls : List Line) → is_coord l ≡ true → Paired xs j (l ∷ ls) → Paired xs (j + 1) ls
paired_site xs j l ls c P = (rw c at P).1

pub paired_other : (xs : List Slot) (j : ℕ) (l : Line) (ls : List Line) → is_coord l ≡ false → Paired xs j (l ∷ ls) → Paired xs j ls
paired_other xs j l ls c P = (rw (c, add-zero j) at P).1
