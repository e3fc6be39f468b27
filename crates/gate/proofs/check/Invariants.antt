use Rattle.gate.proofs.Sofar.{Sofar}
use Rattle.trail.specs.Trail.{Watched}
use Rattle.gate.proofs.check.Given as goal

abbrev pub invariant-loop-i : goal.invariant-loop-i
invariant-loop-i l = Sofar l.text l.i l.c.past l.c.state × Watched l.text l.c.past.block l.c.watch
