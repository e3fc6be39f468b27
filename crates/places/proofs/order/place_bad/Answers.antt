use Rattle.ascii.proofs.Bools.{and_both}
use Rattle.places.specs.Places.{place_bad}
use Rattle.places.proofs.order.place_bad.Goals as goal

pub returns : goal.returns
unfolding place_bad
returns c = rw (and_both, c.row_of-r.ensures)
