-- What a slot and a cell are filled with is what anything lent is filled with.
-- Assumes nothing.
use Prim.Native.Nat.{ℕ}
use mathlib.Core.Path.{◌≡◌, refl}
use Rattle.std.specs.Prelude.{Result, Ok, Err}
use Rattle.slots.specs.declared.Slot.{Slot}
use Rattle.crystal.specs.declared.CellRow.{CellRow}
use Rattle.answers.specs.Boundary.{filled_answer, slot_answer}
use Rattle.answers.specs.Frame.{cell_answer}

pub slot_filled : (r : Result Slot ℕ) (found : Slot) → filled_answer r found ≡ slot_answer r found
slot_filled (Ok s) found = refl
slot_filled (Err n) found = refl

pub cell_filled : (r : Result CellRow ℕ) (found : CellRow) → filled_answer r found ≡ cell_answer r found
cell_filled (Ok c) found = refl
cell_filled (Err n) found = refl
