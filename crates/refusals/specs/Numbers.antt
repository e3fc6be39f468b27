-- The numbers of refusals.
use Rattle.std.specs.Prelude.{ℕ, Result, Ok, Err}
use Rattle.refusals.specs.declared.Refusal.{Refusal}
use Rattle.refusals.specs.declared.Refusal.TheVariants.{Length, LineEnd, Byte, Name, Place, Field, Serial, Run, Bond, Fold, Total, End, Slots, Full, Fragment, Marked, Room, Table, Undrawn, Size, Twin, Model, Scale, Position}

-- each by the format's table
abbrev pub number_of : Refusal → ℕ
number_of Length = 1
number_of LineEnd = 2
number_of Byte = 3
number_of Name = 4
number_of Place = 5
number_of Field = 6
number_of Serial = 7
number_of Run = 8
number_of Bond = 9
number_of Fold = 10
number_of Total = 11
number_of End = 12
number_of Slots = 13
number_of Full = 14
number_of Fragment = 15
number_of Marked = 16
number_of Room = 17
number_of Table = 18
number_of Undrawn = 19
number_of Size = 20
number_of Twin = 21
number_of Model = 22
number_of Scale = 29
number_of Position = 33

-- the number that is answered: 0 where nothing is refused
abbrev pub number_in : {A : Type 0} → Result A Refusal → ℕ
number_in (Ok a) = 0
number_in (Err r) = number_of r

-- the same answer, with a refusal by its number
abbrev pub numbered : {A : Type 0} → Result A Refusal → Result A ℕ
numbered (Ok a) = Ok a
numbered (Err r) = Err (number_of r)
