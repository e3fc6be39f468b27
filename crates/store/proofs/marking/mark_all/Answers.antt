use Prim.Native.Nat.{◌-◌, ◌<◌}
use lib.ListN.{length}
use native.Mathlib.Omega.{arith}
use mathlib.Core.Path.{refl}
use Rattle.fragments.specs.Fragments.{tail_of, marked}
use Rattle.store.proofs.Tails.{marking_start, marking_done, one_next, read}
use Rattle.store.proofs.marking.mark_all.Goals as goal

pub loop-k-init : goal.loop-k-init
unfolding tail_of marked
loop-k-init c = marking_start _ _ _ refl c.end_tail-t.ensures

pub loop-k-preserved : goal.loop-k-preserved
loop-k-preserved c =
    let M = c.loop-k.invariant in
    let h : c.loop-k.k - 1 < length c.loop-k.table = omega (arith, M.size, M.inside, c.loop-k-test.true) in
    one_next _ _ _ _ _ (omega arith) _ _ (rw read at c.step_tail-t.ensures) _ _ M (rw read at c.mark_slot.ensures)

pub returns : goal.returns
returns c = marking_done _ _ _ _ _ c.loop-k.invariant (omega arith)
