use Rattle.std.proofs.lemmas.Result.{err_from_is_err_and}
use Rattle.columns.specs.Columns.{first_of}
use Rattle.columns.proofs.Readers.{good_fault, good_value, then_wrong}
use Rattle.sheet.specs.Sheets.{sheet_columns}
use Rattle.sheet.proofs.SheetLayout.read.Goals as goal

pub returns-in_err-strand : goal.returns-in_err-strand
unfolding sheet_columns first_of
returns-in_err-strand c =
    let p = err_from_is_err_and c.from_residual.result c.from_residual.ensures.1 in
    rw (p.1, p.2) (then_wrong _ _ _ _ _ c.in_err-strand.ensures)

pub returns-in_err-gap : goal.returns-in_err-gap
unfolding sheet_columns first_of
returns-in_err-gap c =
    let p = err_from_is_err_and c.from_residual-in_err-gap.result c.from_residual-in_err-gap.ensures.1 in
    rw (p.1, p.2, good_fault _ _ _ c.in_ok-strand.ensures) (then_wrong _ _ _ _ _ c.in_err-gap.ensures)

pub returns-in_err-registration : goal.returns-in_err-registration
unfolding sheet_columns first_of
returns-in_err-registration c =
    let p = err_from_is_err_and c.from_residual-in_err-registration.result c.from_residual-in_err-registration.ensures.1 in
    rw (p.1, p.2, good_fault _ _ _ c.in_ok-strand.ensures, good_fault _ _ _ c.in_ok-gap.ensures) (then_wrong _ _ _ _ _ (rw (good_value _ _ _ c.in_ok-strand.ensures) at c.in_err-registration.ensures))

pub returns-in_err-gap-2 : goal.returns-in_err-gap-2
unfolding sheet_columns first_of
returns-in_err-gap-2 c =
    let p = err_from_is_err_and c.from_residual-in_err-gap-2.result c.from_residual-in_err-gap-2.ensures.1 in
    rw (p.1, p.2, good_fault _ _ _ c.in_ok-strand.ensures, good_fault _ _ _ c.in_ok-gap.ensures, good_fault _ _ _ (rw (good_value _ _ _ c.in_ok-strand.ensures) at c.in_ok-registration.ensures)) (then_wrong _ _ _ _ _ c.in_err-gap-2.ensures)

pub returns : goal.returns
unfolding sheet_columns first_of
returns c = rw (good_fault _ _ _ c.in_ok-strand.ensures, good_fault _ _ _ c.in_ok-gap.ensures, good_fault _ _ _ (rw (good_value _ _ _ c.in_ok-strand.ensures) at c.in_ok-registration.ensures), good_fault _ _ _ c.in_ok-gap-2.ensures, good_value _ _ _ c.in_ok-strand.ensures, good_value _ _ _ (rw (good_value _ _ _ c.in_ok-strand.ensures) at c.in_ok-registration.ensures))
