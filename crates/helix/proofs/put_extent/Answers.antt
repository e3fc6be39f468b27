use Rattle.columns.proofs.Puts.{put_then}
use Rattle.helix.specs.Helices.{extent_columns}
use Rattle.helix.proofs.put_extent.Goals as goal

pub returns : goal.returns
unfolding extent_columns
returns c =
    put_then c.put_blanks.ensures
    (put_then c.put_whole.ensures
    (put_then c.put_blanks-2.ensures
    (put_then c.put.ensures (put_then c.put_blanks-3.ensures (put_then c.put_residue.ensures (put_then c.put_blanks-4.ensures c.put_residue-2.ensures))))))
