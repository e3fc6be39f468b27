use mathlib.Core.Path.{◌∙◌}
use Rattle.elements.proofs.Common.{usual_element}
use Rattle.elements.proofs.is_element.Goals as goal

pub returns-then-usual : goal.returns-then-usual
returns-then-usual c = c.if-usual.true ∙ usual_element _ _ c.usual.ensures c.if-usual.true
