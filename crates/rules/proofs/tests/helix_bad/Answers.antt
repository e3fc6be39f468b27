use Rattle.ascii.proofs.Bools.{or_either}
use Rattle.rules.proofs.tests.helix_bad.Goals as goal

pub returns : goal.returns
returns c = rw (or_either, c.unfinished.ensures)
