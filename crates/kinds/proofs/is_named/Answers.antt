use Rattle.kinds.proofs.is_named.Goals as goal

pub returns : goal.returns
returns c = rw c.row_of.ensures
