-- The crystal frame as C has it: what is answered, and what is left in the memory that is lent. Rows are twelve numbers, four for each of three lines.
use Rattle.std.specs.Prelude.{◌∷◌, Result, Ok, Err}
use Rattle.ascii.specs.Library.{ℕ, List, [], get_or, ℤ, pos}
use Rattle.coordinate.specs.declared.{Position.Position}
use Rattle.transform.specs.declared.{Transform.Transform}
use Rattle.crystal.specs.declared.{CellRow.CellRow}
use Rattle.fractional.specs.declared.{Rows.Rows, Fractional.Fractional}
use Rattle.answers.specs.Boundary.{Answered, answered}

-- a refused line leaves the cell as found
abbrev pub cell_answer : Result CellRow ℕ → CellRow → Answered CellRow
cell_answer (Ok c) found = answered 0 c
cell_answer (Err n) found = answered n found

-- the numbers of a transformation, and which of the six lines it is; a refused line leaves all as found
abbrev pub transform_answer : Result (ℕ × Transform) ℕ → List ℤ → Answered (List ℤ)
transform_answer (Ok (n, t)) found = answered 0 (t.by.x ∷ t.by.y ∷ t.by.z ∷ t.shift ∷ pos n ∷ [])
transform_answer (Err n) found = answered n found

-- rows as twelve numbers, and twelve numbers as rows
abbrev pub rows_list : Rows → List ℤ
rows_list r =
    r.x.by.x ∷ r.x.by.y ∷ r.x.by.z ∷ r.x.shift ∷
    r.y.by.x ∷ r.y.by.y ∷ r.y.by.z ∷ r.y.shift ∷
    r.z.by.x ∷ r.z.by.y ∷ r.z.by.z ∷ r.z.shift ∷ []

abbrev pub row_from : List ℤ → ℕ → ℕ → ℕ → ℕ → Transform
row_from l a b c d = record { by = record { x = get_or l a (pos 0); y = get_or l b (pos 0); z = get_or l c (pos 0) }; shift = get_or l d (pos 0) }

abbrev pub rows_from : List ℤ → Rows
rows_from l = record { x = row_from l 0 1 2 3; y = row_from l 4 5 6 7; z = row_from l 8 9 10 11 }

abbrev pub position_from : List ℤ → Position
position_from l = record { x = get_or l 0 (pos 0); y = get_or l 1 (pos 0); z = get_or l 2 (pos 0) }

-- a refusal leaves all as found
abbrev pub scale_answer : Result Rows ℕ → List ℤ → Answered (List ℤ)
scale_answer (Ok r) found = answered 0 (rows_list r)
scale_answer (Err n) found = answered n found

-- three billionths, then three hundred-thousandths; a refusal leaves all as found
abbrev pub place_answer : Result Fractional ℕ → List ℤ → Answered (List ℤ)
place_answer (Ok f) found = answered 0 (f.exact.x ∷ f.exact.y ∷ f.exact.z ∷ f.near.x ∷ f.near.y ∷ f.near.z ∷ [])
place_answer (Err n) found = answered n found
