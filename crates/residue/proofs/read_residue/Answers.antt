use mir.Syntax.{w32}
use mir.ValLaws.{to_z-of_z}
use Rattle.std.proofs.lemmas.Result.{err_from_is_err_and}
use Rattle.columns.specs.Columns.{first_of}
use Rattle.columns.proofs.Readers.{good_fault, good_value, then_wrong, last_wrong}
use Rattle.residue.specs.Residues.{residue_columns}
use Rattle.residue.proofs.read_residue.Goals as goal

pub returns-in_err-name : goal.returns-in_err-name
unfolding residue_columns first_of
returns-in_err-name c =
    let p = err_from_is_err_and c.from_residual.result c.from_residual.ensures.1 in
    rw (p.1, p.2) (then_wrong _ _ _ _ _ c.in_err-name.ensures)

pub returns-in_err-gap : goal.returns-in_err-gap
unfolding residue_columns first_of
returns-in_err-gap c =
    let p = err_from_is_err_and c.from_residual-in_err-gap.result c.from_residual-in_err-gap.ensures.1 in
    rw (p.1, p.2, good_fault _ _ _ c.in_ok-name.ensures) (then_wrong _ _ _ _ _ c.in_err-gap.ensures)

pub returns-in_err-chain : goal.returns-in_err-chain
unfolding residue_columns first_of
returns-in_err-chain c =
    let p = err_from_is_err_and c.from_residual-in_err-chain.result c.from_residual-in_err-chain.ensures.1 in
    rw (p.1, p.2, good_fault _ _ _ c.in_ok-name.ensures, good_fault _ _ _ c.in_ok-gap.ensures) (then_wrong _ _ _ _ _ c.in_err-chain.ensures)

pub returns-in_err-gap-2 : goal.returns-in_err-gap-2
unfolding residue_columns first_of
returns-in_err-gap-2 c =
    let p = err_from_is_err_and c.from_residual-in_err-gap-2.result c.from_residual-in_err-gap-2.ensures.1 in
    rw (p.1, p.2, good_fault _ _ _ c.in_ok-name.ensures, good_fault _ _ _ c.in_ok-gap.ensures, good_fault _ _ _ c.in_ok-chain.ensures) (then_wrong _ _ _ _ _ c.in_err-gap-2.ensures)

pub returns-in_err-number : goal.returns-in_err-number
unfolding residue_columns first_of
returns-in_err-number c =
    let p = err_from_is_err_and c.from_residual-in_err-number.result c.from_residual-in_err-number.ensures.1 in
    rw (p.1, p.2, good_fault _ _ _ c.in_ok-name.ensures, good_fault _ _ _ c.in_ok-gap.ensures, good_fault _ _ _ c.in_ok-chain.ensures, good_fault _ _ _ c.in_ok-gap-2.ensures) (then_wrong _ _ _ _ _ c.in_err-number.ensures)

pub returns-in_err-insertion : goal.returns-in_err-insertion
unfolding residue_columns first_of
returns-in_err-insertion c =
    let p = err_from_is_err_and c.from_residual-in_err-insertion.result c.from_residual-in_err-insertion.ensures.1 in
    rw (p.1, p.2, good_fault _ _ _ c.in_ok-name.ensures, good_fault _ _ _ c.in_ok-gap.ensures, good_fault _ _ _ c.in_ok-chain.ensures, good_fault _ _ _ c.in_ok-gap-2.ensures, good_fault _ _ _ c.in_ok-number.ensures) (last_wrong _ _ _ _ c.in_err-insertion.ensures)

pub returns : goal.returns
unfolding residue_columns first_of
returns c = rw (good_fault _ _ _ c.in_ok-name.ensures, good_fault _ _ _ c.in_ok-gap.ensures, good_fault _ _ _ c.in_ok-chain.ensures, good_fault _ _ _ c.in_ok-gap-2.ensures, good_fault _ _ _ c.in_ok-number.ensures, good_fault _ _ _ c.in_ok-insertion.ensures, good_value _ _ _ c.in_ok-name.ensures, good_value _ _ _ c.in_ok-chain.ensures, good_value _ _ _ c.in_ok-insertion.ensures, to_z-of_z w32 c.in_ok-number.number (search), good_value _ _ _ c.in_ok-number.ensures)
