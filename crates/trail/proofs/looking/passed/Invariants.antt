use Prim.Native.Nat.{◌≤◌}
use Rattle.keys.specs.Keys.{home_at}
use Rattle.trail.specs.Trail.{Seen}
use Rattle.trail.proofs.looking.passed.Given as goal

abbrev pub invariant-loop-j : goal.invariant-loop-j
invariant-loop-j l = (l.lo ≤ l.j) × Seen (home_at l.text) l.j l.hi l.from l.low l.x l.limit
