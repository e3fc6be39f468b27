use mathlib.Core.List.{[]}
use mathlib.Core.Path.{sym}
use Rattle.columns.proofs.Puts.{put_then}
use Rattle.fields.proofs.Writes.{bad_number, bad_line, short_number, short_line, done_number, done_line}
use Rattle.kinds.proofs.layout.write.Goals as goal

pub returns-then-not-is_good-clause-number : goal.returns-then-not-is_good-clause-number
returns-then-not-is_good-clause-number g c = bad_number _ [] c.args.line.now (sym c.if-not-is_good.ensures)

pub returns-then-not-is_good-clause-line_after : goal.returns-then-not-is_good-clause-line_after
returns-then-not-is_good-clause-line_after g c = bad_line _ _ _ (sym c.if-not-is_good.ensures)

pub returns-in_default-clause-number : goal.returns-in_default-clause-number
returns-in_default-clause-number g c = short_number _ [] c.args.line.now (sym c.if-not-is_good.ensures) c.in_default.ensures.cases

pub returns-in_default-clause-line_after : goal.returns-in_default-clause-line_after
returns-in_default-clause-line_after g c = short_line _ _ _ (sym c.if-not-is_good.ensures) c.in_default.ensures.cases

pub returns-clause-number : goal.returns-clause-number
returns-clause-number g c = done_number _ [] c.args.line.now (sym c.if-not-is_good.ensures) c.in-Some.ensures.cases.enough

pub returns-clause-line_after : goal.returns-clause-line_after
returns-clause-line_after g c = done_line _ _ _ _ _ (sym c.if-not-is_good.ensures) c.in-Some.ensures.cases.enough c.in-Some.ensures.cases.same (put_then c.put_word.ensures c.put.ensures)
