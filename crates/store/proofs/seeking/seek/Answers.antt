use native.Mathlib.Omega.{arith}
use native.Mathlib.Nat.{le_trans}
use Rattle.search.proofs.Halving.{bracket_start, bracket_met, part_less, part_within}
use Rattle.store.proofs.Standing.{slot_held}
use Rattle.store.proofs.seeking.seek.Goals as goal

pub loop-s-init : goal.loop-s-init
loop-s-init c = (omega arith, λ r. bracket_start _ _ _ _ (omega arith))

pub probe-m-requires : goal.probe-m-requires
probe-m-requires c = c.loop-s-test.true

pub part-s-requires : goal.part-s-requires
part-s-requires c = omega (arith, c.probe-m.ensures.1, c.loop-s.invariant.0, c.requires)

pub loop-s-smaller : goal.loop-s-smaller
loop-s-smaller c = rw c.part-s.ensures (part_less c.loop-s.s _ _ _ c.probe-m.ensures.0 c.probe-m.ensures.1)

pub loop-s-preserved : goal.loop-s-preserved
loop-s-preserved c = rw c.part-s.ensures (le_trans (part_within c.loop-s.s _ _ _ c.probe-m.ensures.1) c.loop-s.invariant.0, λ r. slot_held c.args.table.now _ _ c.loop-s.s _ _ _ c.slot_at.ensures c.rank_of-there.ensures c.probe-m.ensures.0 c.probe-m.ensures.1 r (c.loop-s.invariant.1 r))

pub returns : goal.returns
returns c = λ r. bracket_met _ _ _ _ _ _ (c.loop-s.invariant.1 r) c.loop-s-test.false
