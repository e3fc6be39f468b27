use Rattle.ascii.proofs.Bools.{and_both, or_either}
use Rattle.fragments.specs.Fragments.{step_tail}
use Rattle.fragments.proofs.step_tail.Goals as goal

pub returns : goal.returns
unfolding step_tail
returns c = simp (and_both, or_either, c.joins-j.ensures, c.is_ter.ensures, c.residue_of.ensures, c.one_more_unless.ensures)
