use Rattle.ahead.specs.Stamps.{Without}
use Rattle.ahead.proofs.first.Given as goal

abbrev pub invariant-loop-p : goal.invariant-loop-p
invariant-loop-p l = Without l.text l.b l.p l.z
