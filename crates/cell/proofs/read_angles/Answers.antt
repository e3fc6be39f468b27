use Rattle.std.proofs.lemmas.Result.{err_from_is_err_and}
use Rattle.columns.specs.Columns.{first_of}
use Rattle.columns.proofs.Readers.{good_fault, good_value, then_wrong, last_wrong}
use Rattle.cell.specs.Cells.{angles_columns}
use Rattle.cell.proofs.read_angles.Goals as goal

pub returns-in_err-alpha : goal.returns-in_err-alpha
unfolding angles_columns first_of
returns-in_err-alpha c =
    let p = err_from_is_err_and c.from_residual.result c.from_residual.ensures.1 in
    rw (p.1, p.2) (then_wrong _ _ _ _ _ c.in_err-alpha.ensures)

pub returns-in_err-beta : goal.returns-in_err-beta
unfolding angles_columns first_of
returns-in_err-beta c =
    let p = err_from_is_err_and c.from_residual-in_err-beta.result c.from_residual-in_err-beta.ensures.1 in
    rw (p.1, p.2, good_fault _ _ _ c.in_ok-alpha.ensures) (then_wrong _ _ _ _ _ c.in_err-beta.ensures)

pub returns-in_err-gamma : goal.returns-in_err-gamma
unfolding angles_columns first_of
returns-in_err-gamma c =
    let p = err_from_is_err_and c.from_residual-in_err-gamma.result c.from_residual-in_err-gamma.ensures.1 in
    rw (p.1, p.2, good_fault _ _ _ c.in_ok-alpha.ensures, good_fault _ _ _ c.in_ok-beta.ensures) (last_wrong _ _ _ _ c.in_err-gamma.ensures)

pub returns : goal.returns
unfolding angles_columns first_of
returns c = rw (good_fault _ _ _ c.in_ok-alpha.ensures, good_fault _ _ _ c.in_ok-beta.ensures, good_fault _ _ _ c.in_ok-gamma.ensures, good_value _ _ _ c.in_ok-alpha.ensures, good_value _ _ _ c.in_ok-beta.ensures, good_value _ _ _ c.in_ok-gamma.ensures)
