use mir.Syntax.{w32}
use mir.ValLaws.{to_z-of_z}
use Rattle.ascii.proofs.Bools.{and_both, both_assoc}
use Rattle.coordinate.specs.Atoms.{measure_columns}
use Rattle.coordinate.proofs.measure_is_good.Goals as goal

pub returns : goal.returns
unfolding measure_columns
returns c = simp (and_both, both_assoc, c.position_is_good.ensures, c.ranged.ensures, c.spans.ensures, to_z-of_z w32 c.args.s.temperature (search))
