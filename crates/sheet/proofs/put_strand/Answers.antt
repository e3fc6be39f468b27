use Rattle.columns.proofs.Puts.{put_then}
use Rattle.fields.proofs.Returns.{integer_passed}
use Rattle.sheet.specs.Sheets.{strand_columns}
use Rattle.sheet.proofs.put_strand.Goals as goal

pub returns : goal.returns
unfolding strand_columns
returns c =
    put_then c.put_blanks.ensures
    (put_then c.put_whole.ensures
    (put_then c.put_blanks-2.ensures
    (put_then c.put.ensures
    (put_then c.put_whole-2.ensures
    (put_then c.put_blanks-3.ensures
    (put_then c.put_residue.ensures (put_then c.put_blanks-4.ensures (put_then c.put_residue-2.ensures (integer_passed _ _ _ _ _ _ (search) c.put_integer.ensures)))))))))
