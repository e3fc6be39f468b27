use Rattle.store.proofs.dealing.size_of.Goals as goal

pub returns-then-saving : goal.returns-then-saving
returns-then-saving c = simp c.if-saving.true

pub returns : goal.returns
returns c = simp c.if-saving.false
