use Rattle.store.proofs.tray.Goals as goal

pub returns : goal.returns
returns c = c.deal.ensures
