use Prim.Native.Nat.{◌-◌, ◌<◌}
use lib.ListN.{length}
use native.Mathlib.Omega.{arith}
use mathlib.Core.Path.{refl}
use Rattle.fragments.specs.Fragments.{tail_of, marked_by}
use Rattle.store.proofs.Tails.{marking_start, marking_done, marking_within, each_next, read}
use Rattle.store.proofs.marking.mark_each.Goals as goal

pub loop-k-init : goal.loop-k-init
unfolding tail_of marked_by
loop-k-init c = marking_start _ _ _ refl c.end_tail-t.ensures

pub overflow_sub-at : goal.overflow_sub-at
overflow_sub-at c =
    let h : c.loop-k.k - 1 < length c.loop-k.table = omega (arith, c.loop-k.invariant.size, c.loop-k.invariant.inside, c.loop-k-test.true) in
    omega (arith, (marking_within _ _ _ _ _ c.loop-k.invariant _ (omega arith) _ (rw read at c.step_tail-t.ensures)).1)

pub bounds-aside-at : goal.bounds-aside-at
bounds-aside-at c =
    let h : c.loop-k.k - 1 < length c.loop-k.table = omega (arith, c.loop-k.invariant.size, c.loop-k.invariant.inside, c.loop-k-test.true) in
    let w = marking_within _ _ _ _ _ c.loop-k.invariant _ (omega arith) _ (rw read at c.step_tail-t.ensures) in
    omega (arith, w.0, w.1)

pub loop-k-preserved : goal.loop-k-preserved
loop-k-preserved c =
    let h : c.loop-k.k - 1 < length c.loop-k.table = omega (arith, c.loop-k.invariant.size, c.loop-k.invariant.inside, c.loop-k-test.true) in
    each_next _ _ _ _ _ (omega arith) _ _ (rw read at c.step_tail-t.ensures) _ c.loop-k.invariant (rw read at c.mark_as.ensures)

pub returns : goal.returns
returns c = marking_done _ _ _ _ _ c.loop-k.invariant (omega arith)
