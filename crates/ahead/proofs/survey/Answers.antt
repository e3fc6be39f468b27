use mathlib.Core.Path.{refl}
use Rattle.ahead.proofs.Filter.{stamp_same}
use Rattle.ahead.proofs.survey.Goals as goal

pub returns : goal.returns
returns c = (refl, refl, λ j p l k m s h g. c.sift-c.ensures j l k p m s (stamp_same _ j p (λ n. (c.type_inv.text n).fits) h g))
