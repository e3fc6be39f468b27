use borrow.Author.Tests.{ne_eqb}
use Rattle.columns.proofs.Readers.{good_fault, good_value}
use Rattle.crystal.specs.Crystal.{transform_line}
use Rattle.crystal.proofs.Returns.{wrong_fault}
use Rattle.crystal.proofs.transform_of_line.Goals as goal

pub returns-in_default : goal.returns-in_default
unfolding transform_line
returns-in_default c = rw (ne_eqb _ _ c.in_default.ensures.cases)

pub returns-then-not-is_clean : goal.returns-then-not-is_clean
unfolding transform_line
returns-then-not-is_clean c = rw (c.in-Some.ensures.cases.long, ← c.in-Some.ensures.cases.same, ← c.if-not-is_clean.ensures)

pub returns-in_default-row_number : goal.returns-in_default-row_number
unfolding transform_line
returns-in_default-row_number c = rw (c.in-Some.ensures.cases.long, ← c.in-Some.ensures.cases.same, ← c.if-not-is_clean.ensures, ← c.kind_of.ensures, ← c.in_default-row_number.ensures)

pub returns-in_default-read : goal.returns-in_default-read
unfolding transform_line
returns-in_default-read c = rw (c.in-Some.ensures.cases.long, ← c.in-Some.ensures.cases.same, ← c.if-not-is_clean.ensures, ← c.kind_of.ensures, ← c.in-Some-row_number.ensures, wrong_fault _ _ _ c.in_default-read.ensures)

pub returns : goal.returns
unfolding transform_line
returns c = rw (c.in-Some.ensures.cases.long, ← c.in-Some.ensures.cases.same, ← c.if-not-is_clean.ensures, ← c.kind_of.ensures, ← c.in-Some-row_number.ensures, good_fault _ _ _ c.in-Ok.ensures, good_value _ _ _ c.in-Ok.ensures)
