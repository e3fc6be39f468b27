use Rattle.ahead.specs.Stamps.{Marked}
use Rattle.ahead.proofs.mark_all.Given as goal

abbrev pub invariant-loop-p : goal.invariant-loop-p
invariant-loop-p l = Marked l.text l.b l.p l.filter
