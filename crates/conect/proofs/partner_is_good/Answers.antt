use borrow.Author.Rules.{rules}
use Rattle.conect.specs.Conects.{partner_columns}
use Rattle.conect.proofs.partner_is_good.Goals as goal

pub returns : goal.returns
unfolding partner_columns
returns c = search rules
