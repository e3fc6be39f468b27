-- The jump: the first line with a serial, in any text.
use Rattle.std.specs.Prelude.{◌+◌, ◌/◌, ◌∷◌, Ok, Err}
use Rattle.ascii.specs.Library.{ℕ, List, [], Bool, false, length, get_or, take, eqb, both, byte, pick}
use Rattle.line.specs.declared.unread.Misread.TheVariants.{Refused, Wrong}
use Rattle.line.specs.Lines.{Answer, read_line}
use Rattle.facets.specs.Facets.{spot_of}
use Rattle.rows.specs.Text.{cut}
use Rattle.serials.specs.Known.{is_atom}
use Rattle.jump.specs.declared.{Jump.Jump}

-- an ATOM or HETATM line with serial x was read
abbrev pub read_atom : ℕ → Answer → Bool
read_atom x (Ok r) = is_atom x (spot_of r)
read_atom x (Err (Refused r)) = false
read_atom x (Err (Wrong column)) = false

-- a piece of 81 bytes that ends in byte 10 and reads by itself as an ATOM or HETATM line with serial x
unfoldable pub is_hit : ℕ → List ℕ → Bool
is_hit x p = both (eqb (length p) 81) (both (eqb (get_or p 80 0) (byte "\n")) (read_atom x (read_line (take 80 p))))

-- the numbers of such lines among pieces of which the first is line n
unfoldable pub hits_from : ℕ → ℕ → List (List ℕ) → List ℕ
hits_from x n [] = []
hits_from x n (p ∷ ps) = pick (is_hit x p) (n ∷ hits_from x (n + 1) ps) (hits_from x (n + 1) ps)

-- the full list of such lines of a text
unfoldable pub hits : ℕ → List ℕ → List ℕ
hits x t = hits_from x 1 (cut t)

-- the first of a list, or what stands for it where there is none
abbrev pub first_or : ℕ → List ℕ → ℕ
first_or none [] = none
first_or none (n ∷ ns) = n

-- the first of them, or 0; looked at is that number of lines, or all of 81 bytes
abbrev pub jump_to : List ℕ → ℕ → Jump
jump_to hs whole = record { line = first_or 0 hs; looked = first_or whole hs }

unfoldable pub jump_of : ℕ → List ℕ → Jump
jump_of x t = jump_to (hits x t) (length t / 81)
