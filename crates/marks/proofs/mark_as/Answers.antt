use Rattle.marks.proofs.mark_as.Goals as goal

pub returns : goal.returns
returns c = rw (c.with_mark.ensures, c.mark_byte.ensures)
