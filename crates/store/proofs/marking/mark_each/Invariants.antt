use Rattle.fragments.specs.Fragments.{marked_by}
use Rattle.table.specs.Table.{mark_at}
use Rattle.store.proofs.Tails.{Marking}
use Rattle.store.proofs.marking.mark_each.Given as goal

abbrev pub invariant-loop-k : goal.invariant-loop-k
invariant-loop-k l = Marking l.initial.table (marked_by (mark_at l.aside)) l.k l.t l.table
