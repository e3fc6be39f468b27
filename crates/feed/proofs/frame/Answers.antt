use Rattle.std.proofs.Common.{ap, ◌∙◌, refl}
use Rattle.std.proofs.lemmas.List.{get_or_default}
use Rattle.slots.specs.Slots.{no_slot}
use Rattle.feed.specs.Frame.{taken_in}
use Rattle.feed.proofs.Walk.{walk_start, walk_turn, walk_end}
use Rattle.feed.proofs.frame.Goals as goal

pub loop-s-init : goal.loop-s-init
loop-s-init c = walk_start _ _ refl

pub loop-s-preserved : goal.loop-s-preserved
loop-s-preserved c =
    let e = c.take_in-b.ensures ∙ ap (taken_in c.loop-s.b) (get_or_default c.args.table.now c.loop-s.s-index _ no_slot c.loop-s-test.true) in
    walk_turn _ _ _ _ _ c.loop-s-test.true e c.loop-s.invariant

pub returns : goal.returns
returns c = walk_end _ _ _ _ c.loop-s-test.false c.loop-s.invariant c.frame_of.ensures
