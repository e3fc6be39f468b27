use mathlib.Core.Path.{◌∙◌}
use Rattle.names.proofs.Bytes.{name_read}
use Rattle.names.proofs.read.Goals as goal

pub returns : goal.returns
returns g c = c.copy_from_slice.ensures.after ∙ name_read _ _ _ c.requires
