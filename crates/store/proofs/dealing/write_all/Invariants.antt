use Rattle.store.proofs.Written.{Written}
use Rattle.store.proofs.dealing.write_all.Given as goal

abbrev pub invariant-loop-i : goal.invariant-loop-i
invariant-loop-i l = Written l.text l.table l.saving l.initial.out l.i l.k l.past l.q l.at l.out
