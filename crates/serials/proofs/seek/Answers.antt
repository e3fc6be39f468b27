use Rattle.search.proofs.Halving.{part_less}
use Rattle.serials.proofs.Finding.{look_held}
use Rattle.serials.proofs.seek.Goals as goal

pub loop-s-smaller : goal.loop-s-smaller
loop-s-smaller c = rw c.part-s.ensures (part_less c.loop-s.s _ _ _ c.probe-m.ensures.0 c.probe-m.ensures.1)

pub loop-s-preserved : goal.loop-s-preserved
loop-s-preserved c = rw c.part-s.ensures (look_held c.args.text.now _ _ _ c.loop-s.s _ _ c.requires c.loop-s.invariant c.probe-m.ensures.0 c.probe-m.ensures.1 (rw c.piece_at.ensures at c.serial_at-serial.ensures))
