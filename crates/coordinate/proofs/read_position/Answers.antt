use mir.Syntax.{w32}
use mir.ValLaws.{to_z-of_z}
use Rattle.std.proofs.lemmas.Result.{err_from_is_err_and}
use Rattle.columns.specs.Columns.{first_of}
use Rattle.columns.proofs.Readers.{good_fault, good_value, then_wrong, last_wrong}
use Rattle.coordinate.specs.Atoms.{position_columns}
use Rattle.coordinate.proofs.read_position.Goals as goal

pub returns-in_err-x : goal.returns-in_err-x
unfolding position_columns first_of
returns-in_err-x c =
    let p = err_from_is_err_and c.from_residual.result c.from_residual.ensures.1 in
    rw (p.1, p.2) (then_wrong _ _ _ _ _ c.in_err-x.ensures)

pub returns-in_err-y : goal.returns-in_err-y
unfolding position_columns first_of
returns-in_err-y c =
    let p = err_from_is_err_and c.from_residual-in_err-y.result c.from_residual-in_err-y.ensures.1 in
    rw (p.1, p.2, good_fault _ _ _ c.in_ok-x.ensures) (then_wrong _ _ _ _ _ c.in_err-y.ensures)

pub returns-in_err-z : goal.returns-in_err-z
unfolding position_columns first_of
returns-in_err-z c =
    let p = err_from_is_err_and c.from_residual-in_err-z.result c.from_residual-in_err-z.ensures.1 in
    rw (p.1, p.2, good_fault _ _ _ c.in_ok-x.ensures, good_fault _ _ _ c.in_ok-y.ensures) (last_wrong _ _ _ _ c.in_err-z.ensures)

pub returns : goal.returns
unfolding position_columns first_of
returns c = rw (good_fault _ _ _ c.in_ok-x.ensures, good_fault _ _ _ c.in_ok-y.ensures, good_fault _ _ _ c.in_ok-z.ensures, to_z-of_z w32 c.in_ok-x.x (search), good_value _ _ _ c.in_ok-x.ensures, to_z-of_z w32 c.in_ok-y.y (search), good_value _ _ _ c.in_ok-y.ensures, to_z-of_z w32 c.in_ok-z.z (search), good_value _ _ _ c.in_ok-z.ensures)
