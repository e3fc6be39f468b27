use mir.Syntax.{w32}
use mir.ValLaws.{to_z-of_z}
use Rattle.columns.proofs.Puts.{put_then}
use Rattle.coordinate.specs.Atoms.{position_columns}
use Rattle.coordinate.proofs.put_position.Goals as goal

pub returns : goal.returns
unfolding position_columns
returns c =
    put_then (rw (to_z-of_z w32 c.args.p.x (search)) at c.put_real.ensures)
    (put_then (rw (to_z-of_z w32 c.args.p.y (search)) at c.put_real-2.ensures) (rw (to_z-of_z w32 c.args.p.z (search)) at c.put_real-3.ensures))
