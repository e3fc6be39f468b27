use mir.Syntax.{w32}
use mir.ValLaws.{to_z-of_z}
use Rattle.columns.proofs.Puts.{put_then}
use Rattle.coordinate.specs.Atoms.{measure_columns}
use Rattle.coordinate.proofs.put_measure.Goals as goal

pub returns : goal.returns
unfolding measure_columns
returns c =
    put_then c.put_position.ensures
    (put_then c.put_whole_real.ensures (rw (to_z-of_z w32 c.args.s.temperature (search)) at c.put_real.ensures))
