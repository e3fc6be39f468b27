use Rattle.fractional.proofs.Looking.{Sought}
use Rattle.fractional.proofs.scale_at.Given as goal

abbrev pub invariant-loop-i : goal.invariant-loop-i
invariant-loop-i l = Sought l.text l.i
