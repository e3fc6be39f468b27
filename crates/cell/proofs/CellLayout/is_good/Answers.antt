use Rattle.ascii.proofs.Bools.{and_both, both_assoc, both_true}
use Rattle.cell.specs.Cells.{edges_columns, angles_columns, group_columns, cell_columns}
use Rattle.cell.proofs.CellLayout.is_good.Goals as goal

pub returns : goal.returns
unfolding edges_columns angles_columns group_columns cell_columns
returns c = simp (
  and_both,
  both_assoc,
  both_true,
  c.ranged.ensures,
  c.ranged-2.ensures,
  c.ranged-3.ensures,
  c.ranged-4.ensures,
  c.ranged-5.ensures,
  c.ranged-6.ensures,
  c.is_free.ensures,
  c.is_free-2.ensures,
  c.is_free-3.ensures,
  c.ranged-7.ensures,
)
