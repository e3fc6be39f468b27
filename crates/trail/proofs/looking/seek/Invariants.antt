use Prim.Native.Nat.{◌-◌}
use Rattle.keys.specs.Keys.{home_at}
use Rattle.search.specs.Search.{Bracket}
use Rattle.trail.proofs.looking.seek.Given as goal

abbrev pub invariant-loop-s : goal.invariant-loop-s
invariant-loop-s l = Bracket (home_at l.text) l.initial.s.lo l.initial.s.hi l.x l.s.lo l.s.hi

abbrev pub decreases-loop-s : goal.decreases-loop-s
decreases-loop-s l = l.s.hi - l.s.lo
