use mathlib.Core.Path.{◌∙◌, ap}
use Rattle.std.proofs.Common.{Some}
use Rattle.twins.proofs.Standing.{twin_self}
use Rattle.twins.proofs.met.Goals as goal

pub stands-requires-clause-piece_value : goal.stands-requires-clause-piece_value
stands-requires-clause-piece_value c = twin_self _ _ _ _ _ c.requires.1 c.spot_in.ensures (c.in-Some-Site.is ∙ ap Some c.in-Some-Site.field-0-is)
