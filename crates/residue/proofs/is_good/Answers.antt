use mir.Syntax.{w32}
use mir.ValLaws.{to_z-of_z}
use Rattle.ascii.proofs.Bools.{and_both, both_assoc}
use Rattle.residue.specs.Residues.{residue_columns}
use Rattle.residue.proofs.is_good.Goals as goal

pub returns : goal.returns
unfolding residue_columns
returns c = simp (and_both, both_assoc, c.is_residue.ensures, c.is_chain.ensures, c.spans.ensures, c.is_insertion.ensures, to_z-of_z w32 c.args.r.number.0 (search))
