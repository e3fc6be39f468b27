use Rattle.ascii.proofs.Bools.{and_both}
use Rattle.rules.specs.Rules.{close_bad}
use Rattle.rules.proofs.tests.close_bad.Goals as goal

pub returns : goal.returns
unfolding close_bad
returns c = rw (and_both, c.same_residue.ensures)
