use mir.Syntax.{w32}
use mir.ValLaws.{to_z-of_z}
use Rattle.ascii.proofs.Bools.{and_both, both_assoc}
use Rattle.coordinate.specs.Atoms.{position_columns}
use Rattle.coordinate.proofs.position_is_good.Goals as goal

pub returns : goal.returns
unfolding position_columns
returns c = simp (and_both, both_assoc, c.spans.ensures, c.spans-2.ensures, c.spans-3.ensures, to_z-of_z w32 c.args.p.x (search), to_z-of_z w32 c.args.p.y (search), to_z-of_z w32 c.args.p.z (search))
