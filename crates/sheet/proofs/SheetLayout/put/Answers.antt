use Rattle.columns.proofs.Puts.{put_then, none_put}
use Rattle.sheet.specs.Sheets.{sheet_columns}
use Rattle.sheet.proofs.SheetLayout.put.Goals as goal

pub returns : goal.returns
unfolding sheet_columns
returns c = put_then c.put_strand.ensures (put_then c.put_blanks.ensures (put_then c.put_registration.ensures (put_then c.put_blanks-2.ensures (none_put _ 80))))
