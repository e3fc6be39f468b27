use Rattle.std.proofs.lemmas.Result.{err_from_is_err_and}
use Rattle.columns.specs.Columns.{first_of}
use Rattle.columns.proofs.Readers.{good_fault, good_value, then_wrong}
use Rattle.ter.specs.Ters.{ter_columns}
use Rattle.ter.proofs.TerLayout.read.Goals as goal

pub returns-in_err-serial : goal.returns-in_err-serial
unfolding ter_columns first_of
returns-in_err-serial c =
    let p = err_from_is_err_and c.from_residual.result c.from_residual.ensures.1 in
    rw (p.1, p.2) (then_wrong _ _ _ _ _ c.in_err-serial.ensures)

pub returns-in_err-gap : goal.returns-in_err-gap
unfolding ter_columns first_of
returns-in_err-gap c =
    let p = err_from_is_err_and c.from_residual-in_err-gap.result c.from_residual-in_err-gap.ensures.1 in
    rw (p.1, p.2, good_fault _ _ _ c.in_ok-serial.ensures) (then_wrong _ _ _ _ _ c.in_err-gap.ensures)

pub returns-in_err-residue : goal.returns-in_err-residue
unfolding ter_columns first_of
returns-in_err-residue c =
    let p = err_from_is_err_and c.from_residual-in_err-residue.result c.from_residual-in_err-residue.ensures.1 in
    rw (p.1, p.2, good_fault _ _ _ c.in_ok-serial.ensures, good_fault _ _ _ c.in_ok-gap.ensures) (then_wrong _ _ _ _ _ c.in_err-residue.ensures)

pub returns-in_err-gap-2 : goal.returns-in_err-gap-2
unfolding ter_columns first_of
returns-in_err-gap-2 c =
    let p = err_from_is_err_and c.from_residual-in_err-gap-2.result c.from_residual-in_err-gap-2.ensures.1 in
    rw (p.1, p.2, good_fault _ _ _ c.in_ok-serial.ensures, good_fault _ _ _ c.in_ok-gap.ensures, good_fault _ _ _ c.in_ok-residue.ensures) (then_wrong _ _ _ _ _ c.in_err-gap-2.ensures)

pub returns : goal.returns
unfolding ter_columns first_of
returns c = rw (good_fault _ _ _ c.in_ok-serial.ensures, good_fault _ _ _ c.in_ok-gap.ensures, good_fault _ _ _ c.in_ok-residue.ensures, good_fault _ _ _ c.in_ok-gap-2.ensures, good_value _ _ _ c.in_ok-serial.ensures, good_value _ _ _ c.in_ok-residue.ensures)
