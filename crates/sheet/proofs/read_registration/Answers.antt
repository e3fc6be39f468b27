use Rattle.std.proofs.lemmas.Result.{err_from_is_err_and}
use Rattle.columns.proofs.Readers.{good_fault, good_value, last_wrong}
use Rattle.sheet.proofs.Registrations.{read_blank, read_first, read_filled}
use Rattle.sheet.proofs.read_registration.Goals as goal

pub returns-in_err-read_bond-in-Err-2 : goal.returns-in_err-read_bond-in-Err-2
returns-in_err-read_bond-in-Err-2 c =
    let p = err_from_is_err_and c.from_residual.result c.from_residual.ensures.1 in
    rw (p.1, p.2, read_filled _ _ _ c.if-strand-eq1.false c.in-Err-2.ensures) (last_wrong _ _ _ _ c.in_err-read_bond-in-Err-2.ensures)

pub returns-in-Ok : goal.returns-in-Ok
returns-in-Ok c = read_blank _ _ (good_fault _ _ _ c.in-Ok.ensures)

pub returns-in-Err : goal.returns-in-Err
returns-in-Err c = read_first _ _ _ c.if-strand-eq1.true c.in-Err.ensures

pub returns-in_ok-read_bond-in-Err-2 : goal.returns-in_ok-read_bond-in-Err-2
returns-in_ok-read_bond-in-Err-2 c =
    rw (read_filled _ _ _ c.if-strand-eq1.false c.in-Err-2.ensures, good_fault _ _ _ c.in_ok-read_bond-in-Err-2.ensures, good_value _ _ _ c.in_ok-read_bond-in-Err-2.ensures)
