use mathlib.Core.Path.{sym, ◌∙◌}
use mathlib.Core.Bool.{true≢false}
use Rattle.store.proofs.seeking.stays_if.Goals as goal

pub returns-then-fit : goal.returns-then-fit
returns-then-fit c = λ f r. c.stays.ensures r

pub returns : goal.returns
returns c = λ f r. absurd (true≢false (sym f ∙ c.if-fit.false))
