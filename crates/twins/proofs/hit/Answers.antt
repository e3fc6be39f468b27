use mathlib.Core.Path.{◌∙◌, sym}
use Rattle.twins.proofs.Columns.{twin_columns}
use Rattle.twins.proofs.Standing.{ruled_out}
use Rattle.twins.proofs.hit.Goals as goal

pub returns-else-alike : goal.returns-else-alike
returns-else-alike c = c.if-alike.false ∙ ruled_out _ (twin_columns c.args.a c.args.piece.now c.args.other.now c.requires.0) (λ e. c.alike.ensures c.if-alike.false e.0 (e.1 ∙ sym c.requires.1))
