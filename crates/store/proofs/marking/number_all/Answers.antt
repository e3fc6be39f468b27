use Prim.Native.Nat.{◌-◌, ◌<◌}
use lib.ListN.{length}
use native.Mathlib.Omega.{arith}
use Rattle.fragments.specs.Fragments.{tail_of}
use Rattle.store.proofs.Tails.{numbering_start, numbering_next, numbering_within, numbering_done, read}
use Rattle.store.proofs.marking.number_all.Goals as goal

pub loop-k-init : goal.loop-k-init
unfolding tail_of
loop-k-init c = numbering_start _ _ _ _ c.requires.table_in_bounds c.end_tail-t.ensures

pub number_of-requires : goal.number_of-requires
number_of-requires c =
    let h : c.loop-k.k - 1 < length c.args.table.now = omega (arith, c.loop-k.invariant.inside, c.loop-k-test.true) in
    (omega (arith, c.requires.table_bound.0, numbering_within _ _ _ _ _ _ c.loop-k.invariant _ (omega arith) _ (rw read at c.step_tail-t.ensures)), c.requires.table_bound.1)

pub bounds-out-k : goal.bounds-out-k
bounds-out-k c = omega (arith, c.loop-k.invariant.size, c.loop-k.invariant.inside, c.requires.table_in_bounds)

pub loop-k-preserved : goal.loop-k-preserved
loop-k-preserved c =
    let h : c.loop-k.k - 1 < length c.args.table.now = omega (arith, c.loop-k.invariant.inside, c.loop-k-test.true) in
    numbering_next _ _ _ _ _ _ c.requires.table_in_bounds c.loop-k.invariant _ (omega arith) _ _ (rw read at c.step_tail-t.ensures) c.number_of.ensures

pub returns : goal.returns
returns c = numbering_done _ _ _ _ _ _ c.loop-k.invariant (omega arith)
