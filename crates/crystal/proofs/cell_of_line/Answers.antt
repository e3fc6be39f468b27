use borrow.Author.Tests.{ne_eqb}
use Rattle.columns.proofs.Readers.{good_fault, good_value}
use Rattle.crystal.specs.Crystal.{cell_line}
use Rattle.crystal.proofs.Returns.{not_cell, wrong_fault}
use Rattle.crystal.proofs.cell_of_line.Goals as goal

pub returns-in_default : goal.returns-in_default
unfolding cell_line
returns-in_default c = rw (ne_eqb _ _ c.in_default.ensures.cases)

pub returns-then-not-is_clean : goal.returns-then-not-is_clean
unfolding cell_line
returns-then-not-is_clean c = rw (c.in-Some.ensures.cases.long, ← c.in-Some.ensures.cases.same, ← c.if-not-is_clean.ensures)

pub returns-in_default-kind_of : goal.returns-in_default-kind_of
unfolding cell_line
returns-in_default-kind_of c = rw (c.in-Some.ensures.cases.long, ← c.in-Some.ensures.cases.same, ← c.if-not-is_clean.ensures, ← c.kind_of.ensures, not_cell _ c.in_default-kind_of.not-Cryst1)

pub returns-in_default-read : goal.returns-in_default-read
unfolding cell_line
returns-in_default-read c = rw (c.in-Some.ensures.cases.long, ← c.in-Some.ensures.cases.same, ← c.if-not-is_clean.ensures, ← c.in-Cryst1.ensures, wrong_fault _ _ _ c.in_default-read.ensures)

pub returns : goal.returns
unfolding cell_line
returns c = rw (c.in-Some.ensures.cases.long, ← c.in-Some.ensures.cases.same, ← c.if-not-is_clean.ensures, ← c.in-Cryst1.ensures, good_fault _ _ _ c.in-Ok.ensures, c.cell_row.ensures, good_value _ _ _ c.in-Ok.ensures)
