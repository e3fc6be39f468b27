use Rattle.store.proofs.Standing.{partner_none, partner_found}
use Rattle.store.proofs.seeking.partner_in.Goals as goal

pub returns-then-x-eq0 : goal.returns-then-x-eq0
returns-then-x-eq0 c = λ r. partner_none _ _ c.if-x-eq0.true

pub returns : goal.returns
returns c = λ r. partner_found _ _ _ c.if-x-eq0.false (c.stands_in.ensures r)
