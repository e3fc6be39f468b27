use mir.Syntax.{w32}
use mir.ValLaws.{to_z-of_z}
use Rattle.columns.proofs.Puts.{put_then, none_put}
use Rattle.transform.specs.Transforms.{coefficients_columns, transform_columns}
use Rattle.transform.proofs.TransformLayout.put.Goals as goal

pub returns : goal.returns
unfolding coefficients_columns transform_columns
returns c =
    put_then c.put_blanks.ensures
    (put_then (put_then (rw (to_z-of_z w32 c.args.self.by.x (search)) at c.put_real.ensures)
    (put_then (rw (to_z-of_z w32 c.args.self.by.y (search)) at c.put_real-2.ensures) (rw (to_z-of_z w32 c.args.self.by.z (search)) at c.put_real-3.ensures)))
    (put_then c.put_blanks-2.ensures
    (put_then (rw (to_z-of_z w32 c.args.self.shift (search)) at c.put_real-4.ensures) (put_then c.put_blanks-3.ensures (none_put _ 80)))))
