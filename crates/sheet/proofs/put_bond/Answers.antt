use Rattle.columns.proofs.Puts.{put_then}
use Rattle.sheet.specs.Sheets.{bond_columns}
use Rattle.sheet.proofs.put_bond.Goals as goal

pub returns : goal.returns
unfolding bond_columns
returns c = put_then c.put.ensures (put_then c.put_residue.ensures (put_then c.put_blanks.ensures (put_then c.put-2.ensures c.put_residue-2.ensures)))
