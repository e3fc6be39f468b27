use Rattle.std.proofs.lemmas.Result.{err_from_is_err_and}
use Rattle.columns.specs.Columns.{first_of}
use Rattle.columns.proofs.Readers.{good_fault, good_value, then_wrong}
use Rattle.master.specs.Masters.{master_columns}
use Rattle.master.proofs.TallyLayout.read.Goals as goal

pub returns-in_err-gap : goal.returns-in_err-gap
unfolding master_columns first_of
returns-in_err-gap c =
    let p = err_from_is_err_and c.from_residual.result c.from_residual.ensures.1 in
    rw (p.1, p.2) (then_wrong _ _ _ _ _ c.in_err-gap.ensures)

pub returns-in_err-remark : goal.returns-in_err-remark
unfolding master_columns first_of
returns-in_err-remark c =
    let p = err_from_is_err_and c.from_residual-in_err-remark.result c.from_residual-in_err-remark.ensures.1 in
    rw (p.1, p.2, good_fault _ _ _ c.in_ok-gap.ensures) (then_wrong _ _ _ _ _ c.in_err-remark.ensures)

pub returns-in_err-sheet : goal.returns-in_err-sheet
unfolding master_columns first_of
returns-in_err-sheet c =
    let p = err_from_is_err_and c.from_residual-in_err-sheet.result c.from_residual-in_err-sheet.ensures.1 in
    rw (p.1, p.2, good_fault _ _ _ c.in_ok-gap.ensures, good_fault _ _ _ c.in_ok-remark.ensures) (then_wrong _ _ _ _ _ c.in_err-sheet.ensures)

pub returns-in_err-coord : goal.returns-in_err-coord
unfolding master_columns first_of
returns-in_err-coord c =
    let p = err_from_is_err_and c.from_residual-in_err-coord.result c.from_residual-in_err-coord.ensures.1 in
    rw (p.1, p.2, good_fault _ _ _ c.in_ok-gap.ensures, good_fault _ _ _ c.in_ok-remark.ensures, good_fault _ _ _ c.in_ok-sheet.ensures) (then_wrong _ _ _ _ _ c.in_err-coord.ensures)

pub returns-in_err-gap-2 : goal.returns-in_err-gap-2
unfolding master_columns first_of
returns-in_err-gap-2 c =
    let p = err_from_is_err_and c.from_residual-in_err-gap-2.result c.from_residual-in_err-gap-2.ensures.1 in
    rw (p.1, p.2, good_fault _ _ _ c.in_ok-gap.ensures, good_fault _ _ _ c.in_ok-remark.ensures, good_fault _ _ _ c.in_ok-sheet.ensures, good_fault _ _ _ c.in_ok-coord.ensures) (then_wrong _ _ _ _ _ c.in_err-gap-2.ensures)

pub returns : goal.returns
unfolding master_columns first_of
returns c = rw (good_fault _ _ _ c.in_ok-gap.ensures, good_fault _ _ _ c.in_ok-remark.ensures, good_fault _ _ _ c.in_ok-sheet.ensures, good_fault _ _ _ c.in_ok-coord.ensures, good_fault _ _ _ c.in_ok-gap-2.ensures, good_value _ _ _ c.in_ok-remark.ensures, good_value _ _ _ c.in_ok-sheet.ensures, good_value _ _ _ c.in_ok-coord.ensures)
