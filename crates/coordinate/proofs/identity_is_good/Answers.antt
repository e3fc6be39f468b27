use Rattle.ascii.proofs.Bools.{and_both, both_assoc}
use Rattle.coordinate.specs.Atoms.{identity_columns}
use Rattle.coordinate.proofs.identity_is_good.Goals as goal

pub returns : goal.returns
unfolding identity_columns
returns c = simp (and_both, both_assoc, c.ranged.ensures, c.is_atom_name.ensures, c.is_alternate.ensures, c.is_good.ensures)
