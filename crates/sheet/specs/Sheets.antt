-- SHEET: its columns 7 to 80.
use Rattle.std.specs.Prelude.{Option, Some, None}
use Rattle.ascii.specs.Library.{ℕ, List, Bool, true, false, ℤ, nat_abs, eqb, leb, ltb, pick}
use Rattle.columns.specs.Columns.{blanks}
use Rattle.fields.specs.Field.{is_neg}
use Rattle.fields.specs.Format.{Format, whole_f, integer_f, none_f, ◌then◌, after, held, under, shut}
use Rattle.fields.specs.Choice.{only, maybe, blank, into}
use Rattle.names.specs.Names.{name_f, is_identifier, is_bond_name}
use Rattle.residue.specs.Residues.{residue_f}
use Rattle.sheet.specs.declared.{Bond.Bond, Strand.Strand, Sheet.Sheet}

-- 0, 1 or -1
unfoldable pub is_sense : ℤ → Bool
is_sense z = pick (is_neg z) (eqb (nat_abs z) 1) (leb (nat_abs z) 1)

-- sense 0 exactly for strand 1
unfoldable pub sense_fits : ℕ → ℤ → Bool
sense_fits s z = pick (eqb s 1) (eqb (nat_abs z) 0) (ltb 0 (nat_abs z))

-- ---- columns 42 to 70, the registration: atom 42-45 and residue 46-55 in this strand, atom 57-60 and residue 61-70 in the one before
unfoldable pub bond_columns : Format Bond
bond_columns =
    held (name_f 4 is_bond_name then residue_f 0 then after 1 (name_f 4 is_bond_name then residue_f 0))
    (λ (atom, (residue, (otherAtom, other))). record { atom = atom; residue = residue; other_atom = otherAtom; other = other })
    (λ b. (b.atom, (b.residue, (b.other_atom, b.other))))

abbrev pub bond_f : Format Bond
bond_f = shut 29 bond_columns

abbrev pub filled_text : Option Bond → List ℕ
filled_text None = blanks 29
filled_text (Some b) = bond_f.text b

abbrev pub filled_ok : Option Bond → Bool
filled_ok None = true
filled_ok (Some b) = bond_f.ok b

abbrev pub is_absent : Option Bond → Bool
is_absent None = true
is_absent (Some b) = false

-- for strand 1 blank, else blank or filled
unfoldable pub registration_columns : ℕ → Format (Option Bond)
registration_columns s = pick (eqb s 1) (blank 29 None is_absent) (maybe bond_f None Some filled_text filled_ok)

abbrev pub registration_f : ℕ → Format (Option Bond)
registration_f s = shut 29 (registration_columns s)

-- ---- columns 7 to 40: strand 8-10, identifier 12-14, strands in the sheet 15-16, first residue 18-27, last residue 29-38, sense 39-40
-- the sense, column 39, is blamed
unfoldable pub strand_columns : Format Strand
strand_columns =
    under
    (held (after 1 (whole_f 3 1 999 then after 1 (name_f 3 is_identifier then whole_f 2 1 99
    then after 1 (residue_f 0 then after 1 (residue_f 0 then only (integer_f 2 9 99) is_sense)))))
    (λ (strand, (id, (strands, (first, (last, sense))))).
    record { strand = strand; id = id; strands = strands; first = first; last = last; sense = sense })
    (λ s. (s.strand, (s.id, (s.strands, (s.first, (s.last, s.sense)))))))
    (λ s. sense_fits s.strand s.sense) 39

abbrev pub strand_f : Format Strand
strand_f = shut 34 strand_columns

-- ---- columns 7 to 80
unfoldable pub sheet_columns : Format Sheet
sheet_columns =
    held (into 40 strand_f (λ s. after 1 (registration_f s.strand then after 10 none_f)))
    (λ (strand, (registration, none)). record { strand = strand; registration = registration }) (λ s. (s.strand, (s.registration, tt)))

abbrev pub sheet_f : Format Sheet
sheet_f = shut 74 sheet_columns
