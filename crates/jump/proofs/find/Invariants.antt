use Rattle.jump.proofs.Looking.{Looked}
use Rattle.jump.proofs.find.Given as goal

abbrev pub invariant-loop-i : goal.invariant-loop-i
invariant-loop-i l = Looked l.x.0 l.text l.i
