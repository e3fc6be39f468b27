use mathlib.Core.Path.{sym, ◌∙◌}
use Rattle.feed.proofs.Returns.{stroke_drawn, stroke_from_none, stroke_to_none}
use Rattle.feed.proofs.stroke.Goals as goal

pub returns-in_err-dot : goal.returns-in_err-dot
returns-in_err-dot c = c.from_residual.ensures ∙ stroke_from_none c.args.a c.args.b (sym c.dot.ensures ∙ c.in_err-dot.was)

pub returns-in_err-dot-2 : goal.returns-in_err-dot-2
returns-in_err-dot-2 c = c.from_residual-in_err-dot-2.ensures ∙ stroke_to_none c.args.a c.args.b (sym c.dot-2.ensures ∙ c.in_err-dot-2.was)

pub returns : goal.returns
returns c = stroke_drawn _ _ _ _ (sym c.dot.ensures ∙ c.in_ok-dot.was) (sym c.dot-2.ensures ∙ c.in_ok-dot-2.was)
