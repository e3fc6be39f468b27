-- What the report program prints of an answer.
use Rattle.std.specs.Prelude.{ℕ, List, [], ◌∷◌, ◌++◌, map, decimal}
use Rattle.std.specs.List.{concat}
use Rattle.gate.specs.Gate.{Verdict}
use Rattle.reporting.specs.Report.{Listed, listing}

-- a line: its key, its number in digits, and the byte that ends a line
abbrev pub line_of : List ℕ → ℕ → List ℕ
line_of key number = key ++ (decimal number ++ 10 ∷ [])

-- the lines that a listing makes of an answer
abbrev pub lines_of : List Listed → Verdict → List (List ℕ)
lines_of ls v = map (λ l. line_of l.key (l.number v)) ls

-- the bytes of the report
abbrev pub printed : Verdict → List ℕ
printed v = concat (lines_of listing v)
