use Prim.Native.Nat.{◌-◌}
use Rattle.rows.specs.Text.{row}
use Rattle.search.specs.Search.{Bracket}
use Rattle.serials.specs.Search.{serial_of}
use Rattle.serials.proofs.seek.Given as goal

abbrev pub invariant-loop-s : goal.invariant-loop-s
invariant-loop-s l = Bracket (λ j. serial_of (row l.text j)) l.initial.s.lo l.initial.s.hi l.x.0 l.s.lo l.s.hi

abbrev pub decreases-loop-s : goal.decreases-loop-s
decreases-loop-s l = l.s.hi - l.s.lo
