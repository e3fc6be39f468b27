use Prim.Native.Nat.{◌*◌, ◌<◌}
use native.Mathlib.Omega.{arith}
use lib.ListN.{length}
use Rattle.rows.specs.Text.{row}
use Rattle.store.proofs.Written.{written_start, written_next, written_done, whole_line, rises_here, room_here, small_here, room_left}
use Rattle.store.proofs.dealing.write_all.Goals as goal

pub loop-i-init : goal.loop-i-init
loop-i-init c = rw c.no_counts-q.ensures (written_start _ _ _ _ c.requires.dealable c.requires.table_in_bounds)

pub piece_at-piece-requires : goal.piece_at-piece-requires
piece_at-piece-requires c = whole_line _ _ _ _ _ _ _ _ _ _ c.loop-i.invariant (omega arith)

pub stays-stay-requires : goal.stays-stay-requires
stays-stay-requires c = record {
  k_bound = omega (arith, c.loop-i.invariant.few, c.loop-i.invariant.within, c.before);
  here_value = c.slot_at-here.ensures;
}

pub put_share-at-requires : goal.put_share-at-requires
unfolding row
put_share-at-requires c = let W = c.loop-i.invariant in let h : 81 * c.loop-i.i < length c.args.text.now = omega arith in let s = c.stays-stay.ensures (rises_here _ _ _ _ _ _ _ _ _ _ W h) in let p = c.piece_at-piece.ensures in let el = rw p at c.line_of-l.ensures in record {
  l_value = c.line_of-l.ensures;
  at_in_bounds = rw p (room_left _ _ _ _ _ _ _ _ _ _ W h _ el _ s);
  five_digits = small_here _ _ _ _ _ _ _ _ _ _ W h _ el _ s;
}

pub count_line-q-requires : goal.count_line-q-requires
count_line-q-requires c = room_here _ _ _ _ _ _ _ _ _ _ c.loop-i.invariant (omega arith) (omega (arith, c.loop-i.invariant.within, c.before))

pub overflow_add-k : goal.overflow_add-k
overflow_add-k c = omega (arith, c.loop-i.invariant.few, c.one_of-k.ensures.upper_bound, c.loop-i.invariant.within, c.before)

pub loop-i-preserved : goal.loop-i-preserved
unfolding row
loop-i-preserved c = let W = c.loop-i.invariant in let h : 81 * c.loop-i.i < length c.args.text.now = omega arith in let s = c.stays-stay.ensures (rises_here _ _ _ _ _ _ _ _ _ _ W h) in let p = c.piece_at-piece.ensures in let el = rw p at c.line_of-l.ensures in rw (c.one_of-k.ensures.value, c.past_next-past.ensures) (written_next _ _ _ _ _ _ _ _ _ _ W h _ el _ s _ c.count_line-q.ensures _ (rw p at c.put_share-at.ensures.0) _ (rw p at c.put_share-at.ensures.1))

pub shape_of-out : goal.shape_of-out
shape_of-out c = c.loop-i.invariant.size

pub returns : goal.returns
returns c = written_done _ _ _ _ _ _ _ _ _ _ c.loop-i.invariant (omega arith)
