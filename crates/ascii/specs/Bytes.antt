-- Texts as their bytes: `bytes "TER"` is T, E, R, and `byte "A"` is the byte of A.
use Rattle.std.specs.Prelude.{ℕ, List}
use Prim.Native.Char.{Char, code}
use Prim.Native.String.{String, [], ◌∷◌}
use mathlib.Core.List as list

-- the byte of a character
abbrev pub byte : Char → ℕ
byte c = code c

-- the bytes of a text
abbrev pub bytes : String → List ℕ
bytes [] = list.[]
bytes (c ∷ s) = list.◌∷◌ (byte c) (bytes s)
