use Rattle.store.proofs.Standing.{stays_spot, stays_bond, stays_other}
use Rattle.store.proofs.seeking.stays.Goals as goal

pub returns-then-is_coord : goal.returns-then-is_coord
returns-then-is_coord c = λ r. stays_spot _ _ _ _ c.is_coord.ensures c.if-is_coord.true _ c.requires.here_value _ c.is_kept.ensures

pub returns-then-is_conect : goal.returns-then-is_conect
returns-then-is_conect c = λ r. stays_bond _ _ _ _ c.is_coord.ensures c.if-is_coord.false _ c.is_conect.ensures c.if-is_conect.true _ c.conect_in.ensures _ (c.bond_in.ensures r)

pub returns : goal.returns
returns c = λ r. stays_other _ _ _ _ c.is_coord.ensures c.if-is_coord.false _ c.is_conect.ensures c.if-is_conect.false
