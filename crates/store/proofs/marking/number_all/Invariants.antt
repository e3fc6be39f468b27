use Rattle.store.proofs.Tails.{Numbering}
use Rattle.store.proofs.marking.number_all.Given as goal

abbrev pub invariant-loop-k : goal.invariant-loop-k
invariant-loop-k l = Numbering l.table l.initial.out l.n l.k l.t l.out
