use Prim.Native.Nat.{◌≤◌, ◌-◌}
use Rattle.search.specs.Search.{Bracket}
use Rattle.store.specs.Judged.{rank_at, Rises}
use Rattle.store.proofs.seeking.seek.Given as goal

abbrev pub invariant-loop-s : goal.invariant-loop-s
invariant-loop-s l = (l.s.hi ≤ l.hi) × (Rises l.table l.hi → Bracket (rank_at l.table) 0 l.hi l.x.0 l.s.lo l.s.hi)

abbrev pub decreases-loop-s : goal.decreases-loop-s
decreases-loop-s l = l.s.hi - l.s.lo
