-- TER: its columns 7 to 80.
use Rattle.fields.specs.Format.{Format, whole_f, none_f, ◌then◌, after, held, shut}
use Rattle.residue.specs.Residues.{residue_f}
use Rattle.ter.specs.declared.{Ter.Ter}

-- serial 7-11, residue 18-27
unfoldable pub ter_columns : Format Ter
ter_columns =
    held (whole_f 5 1 99999 then after 6 (residue_f 0 then after 53 none_f))
    (λ (serial, (residue, none)). record { serial = record { 0 = serial }; residue = residue }) (λ t. (t.serial.0, (t.residue, tt)))

abbrev pub ter_f : Format Ter
ter_f = shut 74 ter_columns
