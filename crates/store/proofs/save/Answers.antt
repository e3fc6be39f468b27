use Rattle.store.proofs.save.Goals as goal

pub returns : goal.returns
returns c = c.deal.ensures
