use Rattle.fragments.specs.Fragments.{marked}
use Rattle.store.proofs.Tails.{Marking}
use Rattle.store.proofs.marking.mark_all.Given as goal

abbrev pub invariant-loop-k : goal.invariant-loop-k
invariant-loop-k l = Marking l.initial.table (marked l.b.0 l.m) l.k l.t l.table
