use Rattle.ascii.proofs.Bools.{and_both, both_assoc}
use Rattle.store.proofs.seeking.bond_in.Goals as goal

pub returns : goal.returns
returns c = λ r. simp (and_both, both_assoc, c.stands_in-yes.ensures r, c.partner_in.ensures r, c.partner_in-2.ensures r, c.partner_in-3.ensures r, c.partner_in-4.ensures r)
