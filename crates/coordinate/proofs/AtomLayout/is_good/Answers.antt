use Rattle.ascii.proofs.Bools.{and_both, both_assoc}
use Rattle.coordinate.specs.Atoms.{atom_columns}
use Rattle.coordinate.proofs.AtomLayout.is_good.Goals as goal

pub returns : goal.returns
unfolding atom_columns
returns c = simp (and_both, both_assoc, c.identity_is_good.ensures, c.measure_is_good.ensures, c.species_is_good.ensures, c.leads.ensures)
