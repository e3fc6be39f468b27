use mathlib.Core.Path.{◌∙◌}
use Rattle.ascii.proofs.Bools.{and_both}
use Rattle.fields.proofs.Returns.{ints_same}
use Rattle.residue.specs.Residues.{same_residue}
use Rattle.residue.proofs.same_residue.Goals as goal

pub returns : goal.returns
unfolding same_residue
returns c = c.eq.ensures ∙ simp (and_both, ints_same)
