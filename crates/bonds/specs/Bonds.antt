-- The numbers on a CONECT line by value. (Nothing here is part of an answer.)
use Rattle.std.specs.Prelude.{Option, Some, None}
use Rattle.ascii.specs.Library.{Bool, true, false}
use Rattle.conect.specs.declared.{Conect.Conect}
use Rattle.pieces.specs.declared.{Line.Line}
use Rattle.facets.specs.Facets.{bond_in}

-- a CONECT line
abbrev pub is_bond : Option Conect → Bool
is_bond (Some c) = true
is_bond None = false

abbrev pub is_conect : Line → Bool
is_conect l = is_bond (bond_in l)

-- the numbers on it; zeros on another line
abbrev pub numbers_of : Option Conect → Conect
numbers_of (Some c) = c
numbers_of None =
    record { serial = record { 0 = 0 }; a = record { 0 = 0 }; b = record { 0 = 0 }; c = record { 0 = 0 }; d = record { 0 = 0 } }

abbrev pub conect_in : Line → Conect
conect_in l = numbers_of (bond_in l)
