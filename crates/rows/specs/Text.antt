-- A text and its lines: cut every 81 bytes; a shorter last piece counts as a line.
use Rattle.std.specs.Prelude.{◌*◌, ◌∷◌}
use Rattle.ascii.specs.Library.{ℕ, zero, suc, List, [], length, take, drop}
use Rattle.pieces.specs.declared.{Line.Line}
use Rattle.pieces.specs.Pieces.{line_of}

-- the pieces of a text; there are no more than it has bytes
unfoldable pub cut_at_most : ℕ → List ℕ → List (List ℕ)
cut_at_most zero t = []
cut_at_most (suc n) [] = []
cut_at_most (suc n) (b ∷ t) = take 81 (b ∷ t) ∷ cut_at_most n (drop 81 (b ∷ t))

unfoldable pub cut : List ℕ → List (List ℕ)
cut t = cut_at_most (length t) t

-- the piece with index i, and the line that it is
unfoldable pub piece_at : List ℕ → ℕ → List ℕ
piece_at t i = take 81 (drop (81 * i) t)

unfoldable pub row : List ℕ → ℕ → Line
row t i = line_of (piece_at t i)

-- the first n lines, the last one first
unfoldable pub down : (ℕ → Line) → ℕ → List Line
down L zero = []
down L (suc n) = L n ∷ down L n
