use Rattle.fragments.proofs.one_more_unless.Goals as goal

pub returns : goal.returns
returns c = simp c.if-j.false
