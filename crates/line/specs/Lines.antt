-- A line by itself: the record that it reads to, and the line that a record is written as.
use Rattle.std.specs.Prelude.{◌++◌}
use Rattle.ascii.specs.Library.{ℕ, List, [], Bool, true, false, length, eqb, pick, either}
use Rattle.columns.specs.Columns.{clean_at}
use Rattle.fields.specs.Format.{Field, Format, none_f, after, held}
use Rattle.kinds.specs.declared.{Kind.Kind}
use Rattle.kinds.specs.declared.Kind.TheVariants.{Helix, Sheet, Cryst1, Origx1, Origx2, Origx3, Scale1, Scale2, Scale3, Atom, Hetatm, Ter, Conect, Master, End, Model, Endmdl}
use Rattle.kinds.specs.Kinds.{row_of, line_with, is, kind_of}
use Rattle.coordinate.specs.Atoms.{atom_f, coordinate_kind}
use Rattle.ter.specs.Ters.{ter_f}
use Rattle.helix.specs.Helices.{helix_f}
use Rattle.sheet.specs.Sheets.{sheet_f}
use Rattle.conect.specs.Conects.{conect_f}
use Rattle.master.specs.Masters.{master_f}
use Rattle.model.specs.Models.{model_f}
use Rattle.cell.specs.Cells.{cell_f}
use Rattle.transform.specs.declared.{Axis.Axis, Axis.TheVariants.X, Axis.TheVariants.Y, Axis.TheVariants.Z}
use Rattle.transform.specs.Transforms.{transform_f, transform_kind}
use Rattle.words.specs.Words.{bytes_of}
use Rattle.std.specs.Prelude.{Result, Ok, Err}
use Rattle.refusals.specs.declared.Refusal.TheVariants.{Length, Byte}
use Rattle.refusals.specs.Numbers.{number_of}
use Rattle.line.specs.declared.{Record.Record, Bare.Bare, unread.Unread.Unread, unread.Unread.TheVariants.Wrong, unread.Unread.TheVariants.Untyped, unread.Misread.Misread}
use Rattle.line.specs.declared.unread.Misread.TheVariants as misread
use Rattle.line.specs.Errors.{misread_of}
use Rattle.line.specs.declared.Record.TheVariants as rec

-- what a line of 80 columns reads to, and what is answered of any line
abbrev pub Reading : Type 0
Reading = Result Record Unread

abbrev pub Answer : Type 0
Answer = Result Record Misread

-- END and ENDMDL: columns 7 to 80 are blank
abbrev pub bare_f : Format (Unit {0})
bare_f = after 74 none_f

-- the same as the layout of a line that is a name alone
abbrev pub bare_layout : Format Bare
bare_layout = held bare_f (λ none. record {}) (λ bare. tt)

-- a name, told as one number, with them
abbrev pub bare_line : ℕ → List ℕ
bare_line name = bytes_of 6 name ++ bare_f.text tt

-- the record of a line in which no field is wrong, or the first column of the leftmost wrong one
unfoldable pub judged : ℕ → Record → Reading
judged column r = pick (eqb column 0) (Ok r) (Err (Wrong (record { 0 = column })))

-- SCALE (true) or ORIGX, of an axis
abbrev pub transform_read : List ℕ → Bool → Axis → Reading
transform_read l scale axis = judged (transform_f.fault l 6) (rec.Transform scale axis (transform_f.value l 6))

-- the lines of the crystal frame
unfoldable pub crystal_read : Kind → List ℕ → Reading
crystal_read k l =
    pick (is Cryst1 k) (judged (cell_f.fault l 6) (rec.Cell (cell_f.value l 6)))
    (pick (is Origx1 k) (transform_read l false X)
    (pick (is Origx2 k) (transform_read l false Y)
    (pick (is Origx3 k) (transform_read l false Z)
    (pick (is Scale1 k) (transform_read l true X)
    (pick (is Scale2 k) (transform_read l true Y)
    (pick (is Scale3 k) (transform_read l true Z)
    (Err Untyped)))))))

-- what a line of 80 columns reads to, by its kind
unfoldable pub reading_of : Kind → List ℕ → Reading
reading_of k l =
    pick (is Atom k) (judged (atom_f.fault l 6) (rec.Coordinate false (atom_f.value l 6)))
    (pick (is Hetatm k) (judged (atom_f.fault l 6) (rec.Coordinate true (atom_f.value l 6)))
    (pick (is Ter k) (judged (ter_f.fault l 6) (rec.Ter (ter_f.value l 6)))
    (pick (is Helix k) (judged (helix_f.fault l 6) (rec.Helix (helix_f.value l 6)))
    (pick (is Sheet k) (judged (sheet_f.fault l 6) (rec.Sheet (sheet_f.value l 6)))
    (pick (is Conect k) (judged (conect_f.fault l 6) (rec.Conect (conect_f.value l 6)))
    (pick (is Master k) (judged (master_f.fault l 6) (rec.Master (master_f.value l 6)))
    (pick (is End k) (judged (bare_f.fault l 6) rec.End)
    (pick (is Model k) (judged (model_f.fault l 6) (rec.Model (model_f.value l 6)))
    (pick (is Endmdl k) (judged (bare_f.fault l 6) rec.Endmdl)
    (crystal_read k l))))))))))

-- the same of any line
abbrev pub answer_of : Reading → Answer
answer_of (Ok r) = Ok r
answer_of (Err u) = Err (misread_of u)

-- reading one line: 1 where it has not 80 columns, 3 where one is outside 32-126, then 4, then 6
unfoldable pub read_line : List ℕ → Answer
read_line l =
    pick (eqb (length l) 80) (pick (clean_at l 0 80) (answer_of (reading_of (kind_of l) l)) (Err (misread.Refused Byte))) (Err (misread.Refused Length))

-- the number of an answer, and its column: 0 where the number is not 6
abbrev pub answer_number : Answer → ℕ
answer_number (Ok r) = 0
answer_number (Err (misread.Refused r)) = number_of r
answer_number (Err (misread.Wrong column)) = 6

abbrev pub answer_column : Answer → ℕ
answer_column (Ok r) = 0
answer_column (Err (misread.Refused r)) = 0
answer_column (Err (misread.Wrong column)) = column.0

-- ORIGX and SCALE: the lines that MASTER counts as transformations
abbrev pub is_transform : Kind → Bool
is_transform k = eqb (row_of k).count 5

-- the fields of a line of 80 columns, columns 7 to 80, by its kind
unfoldable pub fields_of : Kind → List ℕ → List Field
fields_of k l =
    pick (either (is Atom k) (is Hetatm k)) (atom_f.fields l 6)
    (pick (is Ter k) (ter_f.fields l 6)
    (pick (is Helix k) (helix_f.fields l 6)
    (pick (is Sheet k) (sheet_f.fields l 6)
    (pick (is Conect k) (conect_f.fields l 6)
    (pick (is Master k) (master_f.fields l 6)
    (pick (is Model k) (model_f.fields l 6)
    (pick (either (is End k) (is Endmdl k)) (bare_f.fields l 6)
    (pick (is Cryst1 k) (cell_f.fields l 6)
    (pick (is_transform k) (transform_f.fields l 6)
    [])))))))))

-- whether each field of a record is within its range, and the 80 bytes that it is written as
abbrev pub form_of : Record → (Bool × List ℕ)
form_of (rec.Coordinate het a) = (atom_f.ok a, line_with (coordinate_kind het) atom_f a)
form_of (rec.Ter t) = (ter_f.ok t, line_with Ter ter_f t)
form_of (rec.Helix h) = (helix_f.ok h, line_with Helix helix_f h)
form_of (rec.Sheet s) = (sheet_f.ok s, line_with Sheet sheet_f s)
form_of (rec.Conect c) = (conect_f.ok c, line_with Conect conect_f c)
form_of (rec.Master t) = (master_f.ok t, line_with Master master_f t)
form_of rec.End = (bare_f.ok tt, line_with End bare_f tt)
form_of (rec.Model m) = (model_f.ok m, line_with Model model_f m)
form_of rec.Endmdl = (bare_f.ok tt, line_with Endmdl bare_f tt)
form_of (rec.Cell c) = (cell_f.ok c, line_with Cryst1 cell_f c)
form_of (rec.Transform scale axis t) = (transform_f.ok t, line_with (transform_kind scale axis) transform_f t)

abbrev pub record_ok : Record → Bool
record_ok r = (form_of r).0

abbrev pub record_line : Record → List ℕ
record_line r = (form_of r).1
