use Rattle.trail.specs.Trail.{Unlike}
use Rattle.twins.proofs.suspect.Given as goal

abbrev pub invariant-loop-j : goal.invariant-loop-j
invariant-loop-j l = Unlike l.text l.from l.j l.piece
