use Rattle.store.specs.Judged.{Rises}
use Rattle.store.proofs.Standing.{NoneBefore}
use Rattle.store.proofs.seeking.stands_in.Given as goal

abbrev pub invariant-loop-m : goal.invariant-loop-m
invariant-loop-m l = Rises l.table l.k → NoneBefore l.table l.k l.m l.x.0
