use Rattle.ascii.proofs.Bools.{or_either}
use Rattle.ascii.proofs.is_code.Goals as goal

pub returns : goal.returns
returns c = simp (or_either, c.is_upper.ensures, c.is_digit.ensures)
