-- A line of the crystal frame read by itself: the cell of CRYST1, and the transformation of ORIGX or SCALE.
use Rattle.std.specs.Prelude.{Option, Some, None, Result, Ok, Err}
use Rattle.ascii.specs.Library.{ℕ, List, length, eqb, pick}
use Rattle.columns.specs.Columns.{clean_at}
use Rattle.kinds.specs.declared.{Kind.Kind}
use Rattle.kinds.specs.declared.Kind.TheVariants.{Cryst1, Origx1, Origx2, Origx3, Scale1, Scale2, Scale3}
use Rattle.kinds.specs.Kinds.{is, kind_of}
use Rattle.cell.specs.declared.{Cell.Cell}
use Rattle.cell.specs.Cells.{cell_f}
use Rattle.transform.specs.declared.{Transform.Transform}
use Rattle.transform.specs.Transforms.{transform_f}
use Rattle.crystal.specs.declared.{CellRow.CellRow}

-- a cell as C has it: a byte 0 ends the space group
abbrev pub cell_row : Cell → CellRow
cell_row c = record { edges = c.edges; angles = c.angles; z = c.z; group = c.group; end = 0 }

-- 1 where the line has not 80 columns, 3 where one is outside 32-126, 4 for any kind but CRYST1, 6 for a wrong field
unfoldable pub cell_line : List ℕ → Result CellRow ℕ
cell_line l =
    pick (eqb (length l) 80)
    (pick (clean_at l 0 80)
    (pick (is Cryst1 (kind_of l))
    (pick (eqb (cell_f.fault l 6) 0) (Ok (cell_row (cell_f.value l 6))) (Err 6))
    (Err 4))
    (Err 3))
    (Err 1)

-- which of the six lines a kind is: ORIGX1-3 are 1 to 3, SCALE1-3 are 4 to 6
unfoldable pub row_number : Kind → Option ℕ
row_number k =
    pick (is Origx1 k) (Some 1)
    (pick (is Origx2 k) (Some 2)
    (pick (is Origx3 k) (Some 3)
    (pick (is Scale1 k) (Some 4)
    (pick (is Scale2 k) (Some 5)
    (pick (is Scale3 k) (Some 6) None)))))

-- the transformation of one of them: 4 for any kind but these six, 6 for a wrong field
abbrev pub transform_in : Option ℕ → List ℕ → Result (ℕ × Transform) ℕ
transform_in None l = Err 4
transform_in (Some n) l = pick (eqb (transform_f.fault l 6) 0) (Ok (n, transform_f.value l 6)) (Err 6)

-- likewise
unfoldable pub transform_line : List ℕ → Result (ℕ × Transform) ℕ
transform_line l =
    pick (eqb (length l) 80)
    (pick (clean_at l 0 80) (transform_in (row_number (kind_of l)) l) (Err 3))
    (Err 1)
