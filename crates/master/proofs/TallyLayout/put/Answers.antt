use Rattle.columns.proofs.Puts.{put_then, none_put}
use Rattle.master.specs.Masters.{notes_columns, shape_columns, atoms_columns, master_columns}
use Rattle.master.proofs.TallyLayout.put.Goals as goal

pub returns : goal.returns
unfolding notes_columns shape_columns atoms_columns master_columns
returns c =
    put_then c.put_blanks.ensures
    (put_then (put_then c.put_whole.ensures (put_then c.put_whole-2.ensures (put_then c.put_whole-3.ensures c.put_whole-4.ensures)))
    (put_then (put_then c.put_whole-5.ensures (put_then c.put_whole-6.ensures (put_then c.put_whole-7.ensures c.put_whole-8.ensures)))
    (put_then (put_then c.put_whole-9.ensures (put_then c.put_whole-10.ensures (put_then c.put_whole-11.ensures c.put_whole-12.ensures)))
    (put_then c.put_blanks-2.ensures (none_put _ 80)))))
