-- A line stays for its bonds where it is no CONECT line, or each number on it is in. Assumes nothing.
use Rattle.std.proofs.Common.{Option, Some, None}
use mathlib.Core.List.{List}
use Rattle.conect.specs.declared.Conect.{Conect}
use mathlib.Core.Bool.{true}
use mathlib.Core.Path.{◌≡◌, refl}
use Rattle.ascii.specs.Tests.{pick}
use Rattle.slots.specs.declared.Slot.{Slot}
use Rattle.table.specs.Deal.{bond_in, bond_stays}
use Rattle.bonds.specs.Bonds.{numbers_of, is_bond}

pub bond_stays_lem : (xs : List Slot) (b : Option Conect) → bond_stays xs b ≡ pick (is_bond b) (bond_in xs (numbers_of b)) true
bond_stays_lem xs (Some c) = refl
bond_stays_lem xs None = refl
