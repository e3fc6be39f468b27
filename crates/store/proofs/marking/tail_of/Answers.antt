use mathlib.Core.Path.{◌≡◌, refl, ◌∙◌}
use native.Mathlib.Omega.{arith}
use Prim.Native.Nat.{◌-◌, ◌<◌}
use lib.ListN.{length, drop_of_length-le}
use Rattle.fragments.specs.Fragments.{tail_of}
use Rattle.store.proofs.Tails.{tail_step, tail_count, read}
use Rattle.store.proofs.marking.tail_of.Goals as goal

pub loop-k-init : goal.loop-k-init
unfolding tail_of
loop-k-init c = let z = drop_of_length-le c.args.table.now {i = length c.args.table.now} (omega arith) in (omega arith, rw c.end_tail-t.ensures (omega arith), rw (z, c.end_tail-t.ensures))

pub loop-k-preserved : goal.loop-k-preserved
loop-k-preserved c =
    let xs = c.args.table.now in
    let h : c.loop-k.k - 1 < length xs = omega (arith, c.loop-k.invariant.0, c.loop-k-test.true) in
    (omega arith, omega (arith, tail_count _ _ _ c.step_tail-t.ensures), tail_step xs c.loop-k.k _ (omega arith) (omega arith) _ _ c.loop-k.invariant.2 (rw read at c.step_tail-t.ensures))

pub returns : goal.returns
returns c = let z : c.loop-k.k ≡ 0 = omega arith in record {
  value = c.loop-k.invariant.2 ∙ rw z refl;
  count_in_bounds = omega (arith, c.loop-k.invariant.1);
}
