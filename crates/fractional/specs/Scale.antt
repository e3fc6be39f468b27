-- The SCALE rows of a text.
use Rattle.std.specs.Prelude.{◌≡◌, ◌+◌, ◌/◌, Result, Ok, Err}
use Rattle.ascii.specs.Library.{ℕ, zero, suc, List, Bool, length, take, eqb, leb, pick}
use Rattle.words.specs.Words.{word_at}
use Rattle.kinds.specs.declared.Kind.TheVariants.{Scale1}
use Rattle.kinds.specs.Kinds.{row_of}
use Rattle.transform.specs.declared.{Transform.Transform}
use Rattle.transform.specs.Transforms.{transform_f}
use Rattle.rows.specs.Text.{piece_at}
use Rattle.gate.specs.Gate.{check_of}
use Rattle.fractional.specs.declared.{Rows.Rows}

-- whether a piece is named SCALE1, and the line with index i
abbrev pub is_scale1 : List ℕ → Bool
is_scale1 p = eqb (word_at p 0 6) (row_of Scale1).name

abbrev pub is_scale : List ℕ → ℕ → Bool
is_scale t i = is_scale1 (piece_at t i)

-- the index of the first such line among n lines from index i on, or that of the line behind them
unfoldable pub scale_from : List ℕ → ℕ → ℕ → ℕ
scale_from t i zero = i
scale_from t i (suc n) = pick (is_scale t i) i (scale_from t (i + 1) n)

-- the same among all lines of a text
abbrev pub scale_at : List ℕ → ℕ
scale_at t = scale_from t 0 (length t / 81)

-- the numbers of a piece, of the line with index i, and of three lines in a row
abbrev pub row_in : List ℕ → Transform
row_in p = transform_f.value (take 80 p) 6

abbrev pub row_at : List ℕ → ℕ → Transform
row_at t i = row_in (piece_at t i)

abbrev pub rows_at : List ℕ → ℕ → Rows
rows_at t i = record { x = row_at t i; y = row_at t (i + 1); z = row_at t (i + 2) }

-- no field of a piece is wrong, and none of three lines in a row
abbrev pub IsRight : List ℕ → Type 0
IsRight p = transform_f.fault (take 80 p) 6 ≡ 0

abbrev pub Right : List ℕ → ℕ → Type 0
Right t i = IsRight (piece_at t i) × IsRight (piece_at t (i + 1)) × IsRight (piece_at t (i + 2))

-- the SCALE rows of an accepted text; 29: it has none
unfoldable pub scale_of : List ℕ → Result Rows ℕ
scale_of t =
    pick (eqb (check_of t).number 0)
    (pick (leb (scale_at t + 3) (length t / 81)) (Ok (rows_at t (scale_at t))) (Err 29))
    (Err (check_of t).number)
