use mathlib.Core.Path.{◌≡◌}
use Prim.Native.Nat.{◌≤◌, ◌+◌}
use lib.ListN.{length, drop}
use Rattle.fragments.specs.Fragments.{tail_of, mark_of}
use Rattle.store.proofs.marking.mark_of.Given as goal

abbrev pub invariant-loop-k : goal.invariant-loop-k
invariant-loop-k l = (l.k ≤ length l.table) × (l.t.count + l.k ≤ length l.table) × (l.t ≡ tail_of (drop l.k l.table)) × (l.m ≡ mark_of l.b.0 (drop l.k l.table))
