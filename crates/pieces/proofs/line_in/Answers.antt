use Rattle.pieces.proofs.line_in.Goals as goal

pub returns-in-Ok : goal.returns-in-Ok
returns-in-Ok c = rw c.in-Ok.is

pub returns-in-Err-Wrong : goal.returns-in-Err-Wrong
returns-in-Err-Wrong c = let e = rw c.in-Err-Wrong.is at c.in-Err-Wrong.field-0-is in rw (c.in-Err-Wrong.is, e)
