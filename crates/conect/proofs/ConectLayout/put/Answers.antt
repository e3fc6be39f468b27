use Rattle.columns.proofs.Puts.{put_then, none_put}
use Rattle.conect.specs.Conects.{conect_columns, serials_columns, partners_columns}
use Rattle.conect.proofs.ConectLayout.put.Goals as goal

pub returns : goal.returns
unfolding conect_columns serials_columns partners_columns
returns c =
    put_then c.put_whole.ensures
    (put_then c.put_whole-2.ensures
    (put_then (put_then c.put_partner.ensures (put_then c.put_partner-2.ensures c.put_partner-3.ensures)) (put_then c.put_blanks.ensures (none_put _ 80))))
