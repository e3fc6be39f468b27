-- MASTER: its columns 7 to 80. Twelve numbers stand in five columns each from column 11; three of them are always 0.
use Rattle.ascii.specs.Library.{ℕ}
use Rattle.fields.specs.Format.{Format, whole_f, none_f, ◌then◌, after, held, shut}
use Rattle.fields.specs.Choice.{fixed}
use Rattle.master.specs.declared.{Notes.Notes, Shape.Shape, Atoms.Atoms, Tally.Tally}

-- a count
abbrev pub count_f : Format ℕ
count_f = whole_f 5 0 99999

-- a number that is always 0
abbrev pub nil_f : Format (Unit {0})
nil_f = fixed 5 0

-- ---- columns 11 to 30: REMARK, 0, HET, HELIX
unfoldable pub notes_columns : Format Notes
notes_columns =
    held (count_f then nil_f then count_f then count_f)
    (λ (remark, (nil, (het, helix))). record { remark = remark; het = het; helix = helix }) (λ n. (n.remark, (tt, (n.het, n.helix))))

abbrev pub notes_f : Format Notes
notes_f = shut 20 notes_columns

-- ---- columns 31 to 50: SHEET, 0 for turns, 0 for sites, ORIGX with SCALE
unfoldable pub shape_columns : Format Shape
shape_columns =
    held (count_f then nil_f then nil_f then count_f)
    (λ (sheet, (turns, (sites, xform))). record { sheet = sheet; xform = xform }) (λ s. (s.sheet, (tt, (tt, s.xform))))

abbrev pub shape_f : Format Shape
shape_f = shut 20 shape_columns

-- ---- columns 51 to 70: ATOM with HETATM, TER, CONECT, SEQRES
unfoldable pub atoms_columns : Format Atoms
atoms_columns =
    held (count_f then count_f then count_f then count_f)
    (λ (coord, (ter, (conect, seq))). record { coord = coord; ter = ter; conect = conect; seq = seq })
    (λ a. (a.coord, (a.ter, (a.conect, a.seq))))

abbrev pub atoms_f : Format Atoms
atoms_f = shut 20 atoms_columns

-- ---- columns 7 to 80
unfoldable pub master_columns : Format Tally
master_columns =
    held (after 4 (notes_f then shape_f then atoms_f then after 10 none_f))
    (λ (notes, (shape, (atoms, none))).
    record {
      remark = notes.remark;
      het = notes.het;
      helix = notes.helix;
      sheet = shape.sheet;
      xform = shape.xform;
      coord = atoms.coord;
      ter = atoms.ter;
      conect = atoms.conect;
      seq = atoms.seq;
    })
    (λ t. (
      record { remark = t.remark; het = t.het; helix = t.helix },
      (record { sheet = t.sheet; xform = t.xform }, (record { coord = t.coord; ter = t.ter; conect = t.conect; seq = t.seq }, tt)),
    ))

abbrev pub master_f : Format Tally
master_f = shut 74 master_columns
