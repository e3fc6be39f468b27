use Rattle.columns.proofs.Puts.{put_then, none_put}
use Rattle.cell.specs.Cells.{edges_columns, angles_columns, group_columns, cell_columns}
use Rattle.cell.proofs.CellLayout.put.Goals as goal

pub returns : goal.returns
unfolding edges_columns angles_columns group_columns cell_columns
returns c =
    put_then (put_then c.put_whole_real.ensures (put_then c.put_whole_real-2.ensures c.put_whole_real-3.ensures))
    (put_then (put_then c.put_whole_real-4.ensures (put_then c.put_whole_real-5.ensures c.put_whole_real-6.ensures))
    (put_then c.put_blanks.ensures
    (put_then (put_then c.put.ensures (put_then c.put-2.ensures c.put-3.ensures))
    (put_then c.put_whole.ensures (put_then c.put_blanks-2.ensures (none_put _ 80))))))
