-- What is printed of an answer.
use Rattle.std.specs.Prelude.{ℕ, List, [], ◌∷◌, ◌++◌, map, decimal}
use Rattle.std.specs.List.{concat}
use Rattle.gate.specs.Gate.{Verdict}
use Rattle.reporting.specs.Report.{numbers_of}

-- a blank, and a number in digits
abbrev pub spaced : ℕ → List ℕ
spaced n = 32 ∷ decimal n

-- the numbers in digits, a blank before each but the first
abbrev pub pieces_of : List ℕ → List (List ℕ)
pieces_of [] = []
pieces_of (n ∷ ns) = decimal n ∷ map spaced ns

-- the bytes of a line
abbrev pub printed : Verdict → List ℕ
printed v = concat (pieces_of (numbers_of v)) ++ 10 ∷ []
