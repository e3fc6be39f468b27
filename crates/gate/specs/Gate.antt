-- The gate over a whole text: each line is judged against what the good lines before it left.
use Rattle.std.specs.Prelude.{◌+◌, ◌∷◌, ◌≡◌, Option, Some, None, IfSome}
use Rattle.ascii.specs.Library.{ℕ, zero, suc, List, [], map, eqb, pick}
use Rattle.pieces.specs.declared.{Line.Line, Line.TheVariants.Bad, Line.TheVariants.Wrong, Line.TheVariants.Carried, Line.TheVariants.Typed}
use Rattle.pieces.specs.Pieces.{line_of}
use Rattle.facets.specs.Facets.{spot_in, bond_in}
use Rattle.rules.specs.declared.{Looked.Looked, State.State}
use Rattle.refusals.specs.Numbers.{number_of}
use Rattle.places.specs.declared.{Counts.Counts}
use Rattle.places.specs.Places.{end_place}
use Rattle.rules.specs.Rules.{judge_of, next_of, start_of}
use Rattle.gate.specs.declared.{Offence.Offence}
use Rattle.gate.specs.declared.Verdict.{Verdict as Answer}
use Rattle.rows.specs.Text.{cut}
use Rattle.serials.specs.Known.{bond_known}
use Rattle.twins.specs.Twins.{twin_of}

-- the answer of the check in numbers: the number of the refusal, the offending line and its column, the count of good lines and the nine counts
pub record Verdict : Type 0 where
  pub number : ℕ
  pub line : ℕ
  pub column : ℕ
  pub good : ℕ
  pub counts : Counts

-- a column, 0 where there is none
abbrev pub column_in : Option ℕ → ℕ
column_in (Some c) = c
column_in None = 0

-- a column that is there where it is not 0
abbrev pub column_there : ℕ → Option ℕ
column_there zero = None
column_there (suc c) = Some (suc c)

-- a column is there exactly where it is told, so that an answer is told as numbers in one way
abbrev pub ColumnTold : Option Offence → Type 0
ColumnTold o = IfSome o (λ f. f.column ≡ column_there (column_in f.column))

-- the numbers of an offence, 0 where there is none
abbrev pub number_told : Option Offence → ℕ
number_told (Some o) = number_of o.refusal
number_told None = 0

abbrev pub line_told : Option Offence → ℕ
line_told (Some o) = o.line
line_told None = 0

abbrev pub column_told : Option Offence → ℕ
column_told (Some o) = column_in o.column
column_told None = 0

-- the numbers of an answer
abbrev pub told_by : Answer → Verdict
told_by v = record { number = number_told v.offence; line = line_told v.offence; column = column_told v.offence; good = v.good; counts = v.counts }

-- a column at 6, else 0
abbrev pub at_six : ℕ → ℕ → ℕ
at_six n column = pick (eqb n 6) column 0

-- the column of a line that gets the number n: at 6 the first of its leftmost wrong field
abbrev pub column_of : ℕ → Line → ℕ
column_of n (Bad m) = 0
column_of n (Wrong k column) = at_six n column.0
column_of n (Carried k) = 0
column_of n (Typed r) = 0

-- the next line gets the number n, and the column
unfoldable pub refused_of : ℕ → ℕ → State → Verdict
refused_of n column s = record { number = n; line = s.lines + 1; column = column; good = s.lines; counts = s.counts }

-- the text is over: granted where END was the last line, else 12
unfoldable pub finish_of : State → Verdict
finish_of s = pick (eqb s.place end_place) (record { number = 0; line = 0; column = 0; good = s.lines; counts = s.counts }) (refused_of 12 0 s)

-- what a look back over the lines seen says of a line
abbrev pub look_of : List Line → Line → Looked
look_of seen l = record { known = bond_known seen (bond_in l); twin = twin_of seen (spot_in l) }

-- the number of a line, after the good lines seen (the last one first), which left the state s
abbrev pub number_in : List Line → State → Line → ℕ
number_in seen s l = judge_of (look_of seen l) s l

-- the lines to come
unfoldable pub check_lines : List Line → State → List Line → Verdict
check_lines seen s [] = finish_of s
check_lines seen s (l ∷ ls) = pick (eqb (number_in seen s l) 0) (check_lines (l ∷ seen) (next_of s l) ls) (refused_of (number_in seen s l) (column_of (number_in seen s l) l) s)

-- the answer of the check
unfoldable pub check_of : List ℕ → Verdict
check_of t = check_lines [] start_of (map line_of (cut t))
