use mathlib.Core.Path.{◌≡◌}
use Prim.Native.Nat.{◌≤◌, ◌+◌}
use lib.ListN.{length, drop}
use Rattle.fragments.specs.Fragments.{tail_of}
use Rattle.store.proofs.marking.tail_of.Given as goal

abbrev pub invariant-loop-k : goal.invariant-loop-k
invariant-loop-k l = (l.k ≤ length l.table) × (l.t.count + l.k ≤ length l.table) × (l.t ≡ tail_of (drop l.k l.table))
