use Rattle.ascii.proofs.Bools.{and_both}
use Rattle.store.proofs.Standing.{stands_as}
use Rattle.store.proofs.seeking.stands_in_model.Goals as goal

pub returns : goal.returns
returns c = λ r. stands_as _ _ _ _ _ _ _ _ r c.requires.m_bound.1 (c.seek-at.ensures r) c.slot_at.ensures c.is_in.ensures (and_both _ _)
