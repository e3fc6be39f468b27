use Rattle.fractional.proofs.Looking.{position_near, exact_small, place_there, place_out}
use Rattle.fractional.proofs.place.Goals as goal

pub returns-then-not-position_is_good : goal.returns-then-not-position_is_good
returns-then-not-position_is_good c = place_out _ _ _ c.position_is_good.ensures c.if-not-position_is_good.true

pub exact_of-exact-requires : goal.exact_of-exact-requires
exact_of-exact-requires c = position_near _ _ c.position_is_good.ensures c.if-not-position_is_good.false

pub near_of-near-requires : goal.near_of-near-requires
near_of-near-requires c = exact_small c.args.rows c.args.p _ (search, search, search, search) (search, search, search, search) (search, search, search, search) (position_near _ _ c.position_is_good.ensures c.if-not-position_is_good.false) c.exact_of-exact.ensures

pub returns : goal.returns
returns c = place_there _ _ _ _ _ c.position_is_good.ensures c.if-not-position_is_good.false c.exact_of-exact.ensures c.near_of-near.ensures
