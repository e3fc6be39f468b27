use Rattle.std.proofs.lemmas.Result.{err_from_is_err_and}
use Rattle.columns.specs.Columns.{first_of}
use Rattle.columns.proofs.Readers.{good_fault, good_value, then_wrong}
use Rattle.cell.specs.Cells.{cell_columns}
use Rattle.cell.proofs.CellLayout.read.Goals as goal

pub returns-in_err-edges : goal.returns-in_err-edges
unfolding cell_columns first_of
returns-in_err-edges c =
    let p = err_from_is_err_and c.from_residual.result c.from_residual.ensures.1 in
    rw (p.1, p.2) (then_wrong _ _ _ _ _ c.in_err-edges.ensures)

pub returns-in_err-angles : goal.returns-in_err-angles
unfolding cell_columns first_of
returns-in_err-angles c =
    let p = err_from_is_err_and c.from_residual-in_err-angles.result c.from_residual-in_err-angles.ensures.1 in
    rw (p.1, p.2, good_fault _ _ _ c.in_ok-edges.ensures) (then_wrong _ _ _ _ _ c.in_err-angles.ensures)

pub returns-in_err-gap : goal.returns-in_err-gap
unfolding cell_columns first_of
returns-in_err-gap c =
    let p = err_from_is_err_and c.from_residual-in_err-gap.result c.from_residual-in_err-gap.ensures.1 in
    rw (p.1, p.2, good_fault _ _ _ c.in_ok-edges.ensures, good_fault _ _ _ c.in_ok-angles.ensures) (then_wrong _ _ _ _ _ c.in_err-gap.ensures)

pub returns-in_err-group : goal.returns-in_err-group
unfolding cell_columns first_of
returns-in_err-group c =
    let p = err_from_is_err_and c.from_residual-in_err-group.result c.from_residual-in_err-group.ensures.1 in
    rw (p.1, p.2, good_fault _ _ _ c.in_ok-edges.ensures, good_fault _ _ _ c.in_ok-angles.ensures, good_fault _ _ _ c.in_ok-gap.ensures) (then_wrong _ _ _ _ _ c.in_err-group.ensures)

pub returns-in_err-z : goal.returns-in_err-z
unfolding cell_columns first_of
returns-in_err-z c =
    let p = err_from_is_err_and c.from_residual-in_err-z.result c.from_residual-in_err-z.ensures.1 in
    rw (p.1, p.2, good_fault _ _ _ c.in_ok-edges.ensures, good_fault _ _ _ c.in_ok-angles.ensures, good_fault _ _ _ c.in_ok-gap.ensures, good_fault _ _ _ c.in_ok-group.ensures) (then_wrong _ _ _ _ _ c.in_err-z.ensures)

pub returns-in_err-gap-2 : goal.returns-in_err-gap-2
unfolding cell_columns first_of
returns-in_err-gap-2 c =
    let p = err_from_is_err_and c.from_residual-in_err-gap-2.result c.from_residual-in_err-gap-2.ensures.1 in
    rw (p.1, p.2, good_fault _ _ _ c.in_ok-edges.ensures, good_fault _ _ _ c.in_ok-angles.ensures, good_fault _ _ _ c.in_ok-gap.ensures, good_fault _ _ _ c.in_ok-group.ensures, good_fault _ _ _ c.in_ok-z.ensures) (then_wrong _ _ _ _ _ c.in_err-gap-2.ensures)

pub returns : goal.returns
unfolding cell_columns first_of
returns c = rw (good_fault _ _ _ c.in_ok-edges.ensures, good_fault _ _ _ c.in_ok-angles.ensures, good_fault _ _ _ c.in_ok-gap.ensures, good_fault _ _ _ c.in_ok-group.ensures, good_fault _ _ _ c.in_ok-z.ensures, good_fault _ _ _ c.in_ok-gap-2.ensures, good_value _ _ _ c.in_ok-edges.ensures, good_value _ _ _ c.in_ok-angles.ensures, good_value _ _ _ c.in_ok-group.ensures, good_value _ _ _ c.in_ok-z.ensures)
