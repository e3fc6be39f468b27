use Rattle.ascii.proofs.Bools.{and_both, both_assoc}
use Rattle.twins.specs.Twins.{same_atom}
use Rattle.twins.proofs.same_atom.Goals as goal

pub returns : goal.returns
unfolding same_atom
returns c = simp (and_both, both_assoc, c.eq.ensures, c.same_residue.ensures)
