use Rattle.std.proofs.lemmas.Result.{err_from_is_err_and}
use Rattle.columns.specs.Columns.{first_of}
use Rattle.columns.proofs.Readers.{good_fault, good_value, then_wrong, last_wrong}
use Rattle.coordinate.specs.Atoms.{identity_columns}
use Rattle.coordinate.proofs.read_identity.Goals as goal

pub returns-in_err-serial : goal.returns-in_err-serial
unfolding identity_columns first_of
returns-in_err-serial c =
    let p = err_from_is_err_and c.from_residual.result c.from_residual.ensures.1 in
    rw (p.1, p.2) (then_wrong _ _ _ _ _ c.in_err-serial.ensures)

pub returns-in_err-gap : goal.returns-in_err-gap
unfolding identity_columns first_of
returns-in_err-gap c =
    let p = err_from_is_err_and c.from_residual-in_err-gap.result c.from_residual-in_err-gap.ensures.1 in
    rw (p.1, p.2, good_fault _ _ _ c.in_ok-serial.ensures) (then_wrong _ _ _ _ _ c.in_err-gap.ensures)

pub returns-in_err-name : goal.returns-in_err-name
unfolding identity_columns first_of
returns-in_err-name c =
    let p = err_from_is_err_and c.from_residual-in_err-name.result c.from_residual-in_err-name.ensures.1 in
    rw (p.1, p.2, good_fault _ _ _ c.in_ok-serial.ensures, good_fault _ _ _ c.in_ok-gap.ensures) (then_wrong _ _ _ _ _ c.in_err-name.ensures)

pub returns-in_err-alternate : goal.returns-in_err-alternate
unfolding identity_columns first_of
returns-in_err-alternate c =
    let p = err_from_is_err_and c.from_residual-in_err-alternate.result c.from_residual-in_err-alternate.ensures.1 in
    rw (p.1, p.2, good_fault _ _ _ c.in_ok-serial.ensures, good_fault _ _ _ c.in_ok-gap.ensures, good_fault _ _ _ c.in_ok-name.ensures) (then_wrong _ _ _ _ _ c.in_err-alternate.ensures)

pub returns-in_err-residue : goal.returns-in_err-residue
unfolding identity_columns first_of
returns-in_err-residue c =
    let p = err_from_is_err_and c.from_residual-in_err-residue.result c.from_residual-in_err-residue.ensures.1 in
    rw (p.1, p.2, good_fault _ _ _ c.in_ok-serial.ensures, good_fault _ _ _ c.in_ok-gap.ensures, good_fault _ _ _ c.in_ok-name.ensures, good_fault _ _ _ c.in_ok-alternate.ensures) (last_wrong _ _ _ _ c.in_err-residue.ensures)

pub returns : goal.returns
unfolding identity_columns first_of
returns c = rw (good_fault _ _ _ c.in_ok-serial.ensures, good_fault _ _ _ c.in_ok-gap.ensures, good_fault _ _ _ c.in_ok-name.ensures, good_fault _ _ _ c.in_ok-alternate.ensures, good_fault _ _ _ c.in_ok-residue.ensures, good_value _ _ _ c.in_ok-serial.ensures, good_value _ _ _ c.in_ok-name.ensures, good_value _ _ _ c.in_ok-alternate.ensures, good_value _ _ _ c.in_ok-residue.ensures)
