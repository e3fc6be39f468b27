use Rattle.ascii.proofs.Bools.{or_either}
use Rattle.rules.proofs.tests.bond_bad.Goals as goal

pub returns-in-Some : goal.returns-in-Some
returns-in-Some c = rw (c.in-Some.is, or_either)
