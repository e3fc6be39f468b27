-- Each refusal has a number above 0. Assumes nothing.
use Prim.Native.Nat.{◌<◌}
use native.Mathlib.Omega.{arith}
use Rattle.refusals.specs.declared.Refusal.{Refusal}
use Rattle.refusals.specs.declared.Refusal.TheVariants.{Length, LineEnd, Byte, Name, Place, Field, Serial, Run, Bond, Fold, Total, End, Slots, Full, Fragment, Marked, Room, Table, Undrawn, Size, Twin, Model, Scale, Position}
use Rattle.refusals.specs.Numbers.{number_of}

pub number_positive : (r : Refusal) → 0 < number_of r
number_positive Length = omega arith
number_positive LineEnd = omega arith
number_positive Byte = omega arith
number_positive Name = omega arith
number_positive Place = omega arith
number_positive Field = omega arith
number_positive Serial = omega arith
number_positive Run = omega arith
number_positive Bond = omega arith
number_positive Fold = omega arith
number_positive Total = omega arith
number_positive End = omega arith
number_positive Slots = omega arith
number_positive Full = omega arith
number_positive Fragment = omega arith
number_positive Marked = omega arith
number_positive Room = omega arith
number_positive Table = omega arith
number_positive Undrawn = omega arith
number_positive Size = omega arith
number_positive Twin = omega arith
number_positive Model = omega arith
number_positive Scale = omega arith
number_positive Position = omega arith
