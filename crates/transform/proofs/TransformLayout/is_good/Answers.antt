use mir.Syntax.{w32}
use mir.ValLaws.{to_z-of_z}
use Rattle.ascii.proofs.Bools.{and_both, both_assoc, both_true}
use Rattle.transform.specs.Transforms.{coefficients_columns, transform_columns}
use Rattle.transform.proofs.TransformLayout.is_good.Goals as goal

pub returns : goal.returns
unfolding coefficients_columns transform_columns
returns c = simp (
  and_both,
  both_assoc,
  both_true,
  c.spans.ensures,
  c.spans-2.ensures,
  c.spans-3.ensures,
  c.spans-4.ensures,
  to_z-of_z w32 c.args.self.by.x (search),
  to_z-of_z w32 c.args.self.by.y (search),
  to_z-of_z w32 c.args.self.by.z (search),
  to_z-of_z w32 c.args.self.shift (search),
)
