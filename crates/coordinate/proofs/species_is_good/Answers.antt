use Rattle.ascii.proofs.Bools.{and_both}
use Rattle.coordinate.specs.Atoms.{species_columns}
use Rattle.coordinate.proofs.species_is_good.Goals as goal

pub returns : goal.returns
unfolding species_columns
returns c = simp (and_both, c.is_element.ensures, c.is_charge.ensures)
