use borrow.Author.Tests.{eq-eqb, ne_eqb}
use Rattle.conect.specs.Conects.{partner_columns}
use Rattle.conect.proofs.put_partner.Goals as goal

pub returns-then-v-eq0 : goal.returns-then-v-eq0
unfolding partner_columns
returns-then-v-eq0 c = rw (eq-eqb _ _ c.if-v-eq0.true) c.put_blanks.ensures

pub returns-else-v-eq0 : goal.returns-else-v-eq0
unfolding partner_columns
returns-else-v-eq0 c = rw (ne_eqb _ _ c.if-v-eq0.false) c.put_whole.ensures
