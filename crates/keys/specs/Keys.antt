-- The columns that name an atom, as two numbers. (Nothing here is part of an answer.)
use Rattle.ascii.specs.Library.{ℕ, List, take}
use Rattle.words.specs.Words.{word_at}
use Rattle.rows.specs.Text.{piece_at}

-- columns 22-27 of a piece: chain, residue number, insertion code
unfoldable pub home_of : List ℕ → ℕ
home_of p = word_at (take 80 p) 21 6

-- columns 13-20: atom name, alternate letter, residue name
unfoldable pub body_of : List ℕ → ℕ
body_of p = word_at (take 80 p) 12 8

-- of line i
abbrev pub home_at : List ℕ → ℕ → ℕ
home_at t i = home_of (piece_at t i)

abbrev pub body_at : List ℕ → ℕ → ℕ
body_at t i = body_of (piece_at t i)
