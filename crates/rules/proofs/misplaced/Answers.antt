use Rattle.ascii.proofs.Bools.{or_either}
use Rattle.rules.proofs.misplaced.Goals as goal

pub returns : goal.returns
returns c = rw (or_either, c.fence_bad.ensures, c.place_bad.ensures)
