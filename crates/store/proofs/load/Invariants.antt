use Rattle.store.proofs.Filling.{Filled}
use Rattle.store.proofs.load.Given as goal

abbrev pub invariant-loop-i : goal.invariant-loop-i
invariant-loop-i l = Filled l.text l.initial.table l.n l.i l.k l.model l.table
