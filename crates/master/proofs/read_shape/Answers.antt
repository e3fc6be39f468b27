use Rattle.std.proofs.lemmas.Result.{err_from_is_err_and}
use Rattle.columns.specs.Columns.{first_of}
use Rattle.columns.proofs.Readers.{good_fault, good_value, then_wrong, last_wrong}
use Rattle.master.specs.Masters.{shape_columns}
use Rattle.master.proofs.read_shape.Goals as goal

pub returns-in_err-sheet : goal.returns-in_err-sheet
unfolding shape_columns first_of
returns-in_err-sheet c =
    let p = err_from_is_err_and c.from_residual.result c.from_residual.ensures.1 in
    rw (p.1, p.2) (then_wrong _ _ _ _ _ c.in_err-sheet.ensures)

pub returns-in_err-read_whole : goal.returns-in_err-read_whole
unfolding shape_columns first_of
returns-in_err-read_whole c =
    let p = err_from_is_err_and c.from_residual-in_err-read_whole.result c.from_residual-in_err-read_whole.ensures.1 in
    rw (p.1, p.2, good_fault _ _ _ c.in_ok-sheet.ensures) (then_wrong _ _ _ _ _ c.in_err-read_whole.ensures)

pub returns-in_err-read_whole-2 : goal.returns-in_err-read_whole-2
unfolding shape_columns first_of
returns-in_err-read_whole-2 c =
    let p = err_from_is_err_and c.from_residual-in_err-read_whole-2.result c.from_residual-in_err-read_whole-2.ensures.1 in
    rw (p.1, p.2, good_fault _ _ _ c.in_ok-sheet.ensures, good_fault _ _ _ c.in_ok-read_whole.ensures) (then_wrong _ _ _ _ _ c.in_err-read_whole-2.ensures)

pub returns-in_err-xform : goal.returns-in_err-xform
unfolding shape_columns first_of
returns-in_err-xform c =
    let p = err_from_is_err_and c.from_residual-in_err-xform.result c.from_residual-in_err-xform.ensures.1 in
    rw (p.1, p.2, good_fault _ _ _ c.in_ok-sheet.ensures, good_fault _ _ _ c.in_ok-read_whole.ensures, good_fault _ _ _ c.in_ok-read_whole-2.ensures) (last_wrong _ _ _ _ c.in_err-xform.ensures)

pub returns : goal.returns
unfolding shape_columns first_of
returns c = rw (good_fault _ _ _ c.in_ok-sheet.ensures, good_fault _ _ _ c.in_ok-read_whole.ensures, good_fault _ _ _ c.in_ok-read_whole-2.ensures, good_fault _ _ _ c.in_ok-xform.ensures, good_value _ _ _ c.in_ok-sheet.ensures, good_value _ _ _ c.in_ok-xform.ensures)
