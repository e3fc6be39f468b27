use mathlib.Core.Path.{sym, ◌∙◌}
use lib.ListN.{get_or-eq_default}
use Rattle.store.proofs.seeking.slot_at.Goals as goal

pub returns-else-k-table : goal.returns-else-k-table
returns-else-k-table c = c.no_slot.ensures ∙ sym (get_or-eq_default c.args.table.now _ c.if-k-table.false)
