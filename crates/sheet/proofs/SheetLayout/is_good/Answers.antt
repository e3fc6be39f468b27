use Rattle.ascii.proofs.Bools.{and_both, both_true}
use Rattle.sheet.specs.Sheets.{sheet_columns}
use Rattle.sheet.proofs.SheetLayout.is_good.Goals as goal

pub returns : goal.returns
unfolding sheet_columns
returns c = simp (and_both, both_true, c.strand_is_good.ensures, c.registration_is_good.ensures)
