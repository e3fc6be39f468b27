use Prim.Native.Nat.{◌≤◌}
use Rattle.ahead.specs.Stamps.{Parted}
use Rattle.ahead.proofs.sift.Given as goal

abbrev pub invariant-loop-j : goal.invariant-loop-j
invariant-loop-j l = (l.b ≤ l.c) × (l.c ≤ l.e) × Parted l.text l.a l.j l.b l.c
