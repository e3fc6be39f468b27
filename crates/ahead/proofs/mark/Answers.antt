use Rattle.ahead.proofs.Filter.{mark_here, mark_kept}
use Rattle.ahead.proofs.mark.Goals as goal

pub returns-clause-z_after : goal.returns-clause-z_after
returns-clause-z_after c = mark_here c.args.filter.now _ _ _ c.told-filter c.place_of-at.ensures.0 (rw c.tag_of.ensures at c.put.ensures)

pub returns-clause-by_index : goal.returns-clause-by_index
returns-clause-by_index c x = mark_kept c.args.filter.now _ _ _ x c.told-filter c.place_of-at.ensures.0 (rw c.tag_of.ensures at c.put.ensures)
