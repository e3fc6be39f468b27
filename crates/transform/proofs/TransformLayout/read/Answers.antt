use mir.Syntax.{w32}
use mir.ValLaws.{to_z-of_z}
use Rattle.std.proofs.lemmas.Result.{err_from_is_err_and}
use Rattle.columns.specs.Columns.{first_of}
use Rattle.columns.proofs.Readers.{good_fault, good_value, then_wrong}
use Rattle.transform.specs.Transforms.{transform_columns}
use Rattle.transform.proofs.TransformLayout.read.Goals as goal

pub returns-in_err-gap : goal.returns-in_err-gap
unfolding transform_columns first_of
returns-in_err-gap c =
    let p = err_from_is_err_and c.from_residual.result c.from_residual.ensures.1 in
    rw (p.1, p.2) (then_wrong _ _ _ _ _ c.in_err-gap.ensures)

pub returns-in_err-by : goal.returns-in_err-by
unfolding transform_columns first_of
returns-in_err-by c =
    let p = err_from_is_err_and c.from_residual-in_err-by.result c.from_residual-in_err-by.ensures.1 in
    rw (p.1, p.2, good_fault _ _ _ c.in_ok-gap.ensures) (then_wrong _ _ _ _ _ c.in_err-by.ensures)

pub returns-in_err-gap-2 : goal.returns-in_err-gap-2
unfolding transform_columns first_of
returns-in_err-gap-2 c =
    let p = err_from_is_err_and c.from_residual-in_err-gap-2.result c.from_residual-in_err-gap-2.ensures.1 in
    rw (p.1, p.2, good_fault _ _ _ c.in_ok-gap.ensures, good_fault _ _ _ c.in_ok-by.ensures) (then_wrong _ _ _ _ _ c.in_err-gap-2.ensures)

pub returns-in_err-shift : goal.returns-in_err-shift
unfolding transform_columns first_of
returns-in_err-shift c =
    let p = err_from_is_err_and c.from_residual-in_err-shift.result c.from_residual-in_err-shift.ensures.1 in
    rw (p.1, p.2, good_fault _ _ _ c.in_ok-gap.ensures, good_fault _ _ _ c.in_ok-by.ensures, good_fault _ _ _ c.in_ok-gap-2.ensures) (then_wrong _ _ _ _ _ c.in_err-shift.ensures)

pub returns-in_err-gap-3 : goal.returns-in_err-gap-3
unfolding transform_columns first_of
returns-in_err-gap-3 c =
    let p = err_from_is_err_and c.from_residual-in_err-gap-3.result c.from_residual-in_err-gap-3.ensures.1 in
    rw (p.1, p.2, good_fault _ _ _ c.in_ok-gap.ensures, good_fault _ _ _ c.in_ok-by.ensures, good_fault _ _ _ c.in_ok-gap-2.ensures, good_fault _ _ _ c.in_ok-shift.ensures) (then_wrong _ _ _ _ _ c.in_err-gap-3.ensures)

pub returns : goal.returns
unfolding transform_columns first_of
returns c = rw (good_fault _ _ _ c.in_ok-gap.ensures, good_fault _ _ _ c.in_ok-by.ensures, good_fault _ _ _ c.in_ok-gap-2.ensures, good_fault _ _ _ c.in_ok-shift.ensures, good_fault _ _ _ c.in_ok-gap-3.ensures, good_value _ _ _ c.in_ok-by.ensures, to_z-of_z w32 c.in_ok-shift.shift (search), good_value _ _ _ c.in_ok-shift.ensures)
