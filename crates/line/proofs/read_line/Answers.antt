use Rattle.std.proofs.lemmas.Result.{err_from_is_err_and}
use Rattle.line.proofs.Returns.{line_short, line_odd, line_read}
use Rattle.line.proofs.read_line.Goals as goal

pub returns-in_default : goal.returns-in_default
returns-in_default c = line_short _ c.in_default.ensures.cases

pub returns-then-not-is_clean : goal.returns-then-not-is_clean
returns-then-not-is_clean c = line_odd _ _ c.in-Some.ensures.cases.long c.in-Some.ensures.cases.same c.if-not-is_clean.ensures

pub returns-in_err-r : goal.returns-in_err-r
returns-in_err-r c =
    let p = err_from_is_err_and c.from_residual.result c.from_residual.ensures.1 in
    rw (p.1, p.2) (line_read _ _ c.in-Some.ensures.cases.long c.in-Some.ensures.cases.same _ _ c.if-not-is_clean.ensures c.kind_of.ensures c.in_err-r.ensures)

pub returns : goal.returns
returns c = line_read _ _ c.in-Some.ensures.cases.long c.in-Some.ensures.cases.same _ _ c.if-not-is_clean.ensures c.kind_of.ensures c.in_ok-r.ensures
