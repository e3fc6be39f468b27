use Rattle.drawing.proofs.Within.{good_within}
use Rattle.drawing.proofs.draw_good.Goals as goal

pub draw-requires : goal.draw-requires
draw-requires g c = good_within _ _ c.check-v.ensures.numbers
