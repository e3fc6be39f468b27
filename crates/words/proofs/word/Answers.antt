use lib.Dec.{lit<}
use native.Mathlib.Omega.{arith}
use Prim.Native.Nat.{◌+◌, ◌-◌, ◌<◌}
use Rattle.words.proofs.Returns.{word_room, word_more, word_start, word_next, word_end, cut_byte, cut_length}
use Rattle.words.proofs.word.Goals as goal

pub loop-b-init : goal.loop-b-init
loop-b-init c = (lit< tt, word_start _ _ 0)

pub overflow_mul-w : goal.overflow_mul-w
overflow_mul-w c =
    let k : c.loop-b.b-index < c.args.n = omega (arith, cut_length c.args.line.now c.args.at c.args.n c.requires.0) in
    omega (arith, word_room _ _ _ c.loop-b.invariant.0 k c.requires.1)

pub overflow_cast-w : goal.overflow_cast-w
overflow_cast-w c =
    let k : c.loop-b.b-index < c.args.at + c.args.n - c.args.at = omega (arith, cut_length c.args.line.now c.args.at c.args.n c.requires.0) in
    rw (cut_byte c.args.line.now c.args.at c.args.n c.loop-b.b-index k) (omega (arith, c.type_inv.line (c.args.at + c.loop-b.b-index)))

pub overflow_add-w : goal.overflow_add-w
overflow_add-w c =
    let k : c.loop-b.b-index < c.args.n = omega (arith, cut_length c.args.line.now c.args.at c.args.n c.requires.0) in
    let h : c.loop-b.b-index < c.args.at + c.args.n - c.args.at = omega arith in
    rw (cut_byte c.args.line.now c.args.at c.args.n c.loop-b.b-index h)
    (omega (arith, word_room _ _ _ c.loop-b.invariant.0 k c.requires.1, c.type_inv.line (c.args.at + c.loop-b.b-index)))

pub loop-b-preserved : goal.loop-b-preserved
loop-b-preserved c =
    let k : c.loop-b.b-index < c.args.at + c.args.n - c.args.at = omega (arith, cut_length c.args.line.now c.args.at c.args.n c.requires.0) in
    rw (cut_byte c.args.line.now c.args.at c.args.n c.loop-b.b-index k)
    (word_more _ _ _ c.loop-b.invariant.0 (c.type_inv.line (c.args.at + c.loop-b.b-index)).fits, word_next _ _ 0 _ _ c.loop-b.invariant.1)

pub returns : goal.returns
returns c = word_end c.args.line.now c.args.at c.args.n c.loop-b.b-index c.loop-b.w (omega (arith, cut_length c.args.line.now c.args.at c.args.n c.requires.0)) (omega (arith, cut_length c.args.line.now c.args.at c.args.n c.requires.0)) c.loop-b.invariant.1
