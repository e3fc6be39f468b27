use borrow.Author.Tests.{ne_eqb}
use mathlib.Core.Path.{◌∙◌}
use Rattle.serials.proofs.Finding.{other_site}
use Rattle.serials.proofs.site_in.Goals as goal

pub returns-else-serial_at-x : goal.returns-else-serial_at-x
returns-else-serial_at-x c = ne_eqb _ _ c.if-serial_at-x.false ∙ other_site _ _ _ c.serial_at.ensures c.if-serial_at-x.false
