-- A piece of the text by itself: what line it is.
use Rattle.ascii.specs.Library.{ℕ, List, length, get_or, take, eqb, ltb, byte, pick}
use Rattle.columns.specs.Columns.{clean_at}
use Rattle.kinds.specs.declared.{Kind.Kind}
use Rattle.kinds.specs.Kinds.{is_named, kind_of}
use Rattle.std.specs.Prelude.{Ok, Err}
use Rattle.line.specs.Lines.{Reading, reading_of}
use Rattle.pieces.specs.declared.{Line.Line, Line.TheVariants.Bad, Line.TheVariants.Wrong, Line.TheVariants.Carried, Line.TheVariants.Typed}
use Rattle.line.specs.declared.unread.Unread.TheVariants as unread
use Rattle.refusals.specs.declared.{Refusal.TheVariants.Length, Refusal.TheVariants.LineEnd, Refusal.TheVariants.Byte, Refusal.TheVariants.Name}

-- a line of a kind, by what its columns read to; a field wrong is left to be judged after the line's place
-- 4: unknown name; every other name without a typed reading is carried
abbrev pub line_in : Kind → Reading → Line
line_in k (Ok r) = Typed r
line_in k (Err (unread.Wrong column)) = Wrong k column
line_in k (Err unread.Untyped) = pick (is_named k) (Carried k) (Bad Name)

-- 3: a column outside 32-126
unfoldable pub columns_of : List ℕ → Line
columns_of l = pick (clean_at l 0 80) (line_in (kind_of l) (reading_of (kind_of l) l)) (Bad Byte)

-- 1: shorter than 81 bytes; 2: byte 81 is not 10
unfoldable pub line_of : List ℕ → Line
line_of p = pick (ltb (length p) 81) (Bad Length) (pick (eqb (get_or p 80 0) (byte "\n")) (columns_of (take 80 p)) (Bad LineEnd))
