use Rattle.ascii.proofs.Bools.{and_both, both_assoc}
use Rattle.fields.proofs.Returns.{integers, ints_same}
use Rattle.slots.specs.Slots.{same_position, same_measures}
use Rattle.slots.proofs.same_measures.Goals as goal

pub returns : goal.returns
unfolding same_position same_measures
returns c = simp (and_both, both_assoc, ints_same, c.eq.ensures, integers c.args.s.occupancy c.args.t.occupancy (search) (search), integers c.args.s.temperature c.args.t.temperature (search) (search))
