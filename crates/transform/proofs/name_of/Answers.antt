use Rattle.transform.proofs.name_of.Goals as goal

pub returns : goal.returns
returns c = rw (c.row_of.ensures, c.kind_of.ensures)
