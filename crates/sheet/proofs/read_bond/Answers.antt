use Rattle.std.proofs.lemmas.Result.{err_from_is_err_and}
use Rattle.columns.specs.Columns.{first_of}
use Rattle.columns.proofs.Readers.{good_fault, good_value, then_wrong, last_wrong}
use Rattle.sheet.specs.Sheets.{bond_columns}
use Rattle.sheet.proofs.read_bond.Goals as goal

pub returns-in_err-atom : goal.returns-in_err-atom
unfolding bond_columns first_of
returns-in_err-atom c =
    let p = err_from_is_err_and c.from_residual.result c.from_residual.ensures.1 in
    rw (p.1, p.2) (then_wrong _ _ _ _ _ c.in_err-atom.ensures)

pub returns-in_err-residue : goal.returns-in_err-residue
unfolding bond_columns first_of
returns-in_err-residue c =
    let p = err_from_is_err_and c.from_residual-in_err-residue.result c.from_residual-in_err-residue.ensures.1 in
    rw (p.1, p.2, good_fault _ _ _ c.in_ok-atom.ensures) (then_wrong _ _ _ _ _ c.in_err-residue.ensures)

pub returns-in_err-gap : goal.returns-in_err-gap
unfolding bond_columns first_of
returns-in_err-gap c =
    let p = err_from_is_err_and c.from_residual-in_err-gap.result c.from_residual-in_err-gap.ensures.1 in
    rw (p.1, p.2, good_fault _ _ _ c.in_ok-atom.ensures, good_fault _ _ _ c.in_ok-residue.ensures) (then_wrong _ _ _ _ _ c.in_err-gap.ensures)

pub returns-in_err-other_atom : goal.returns-in_err-other_atom
unfolding bond_columns first_of
returns-in_err-other_atom c =
    let p = err_from_is_err_and c.from_residual-in_err-other_atom.result c.from_residual-in_err-other_atom.ensures.1 in
    rw (p.1, p.2, good_fault _ _ _ c.in_ok-atom.ensures, good_fault _ _ _ c.in_ok-residue.ensures, good_fault _ _ _ c.in_ok-gap.ensures) (then_wrong _ _ _ _ _ c.in_err-other_atom.ensures)

pub returns-in_err-other : goal.returns-in_err-other
unfolding bond_columns first_of
returns-in_err-other c =
    let p = err_from_is_err_and c.from_residual-in_err-other.result c.from_residual-in_err-other.ensures.1 in
    rw (p.1, p.2, good_fault _ _ _ c.in_ok-atom.ensures, good_fault _ _ _ c.in_ok-residue.ensures, good_fault _ _ _ c.in_ok-gap.ensures, good_fault _ _ _ c.in_ok-other_atom.ensures) (last_wrong _ _ _ _ c.in_err-other.ensures)

pub returns : goal.returns
unfolding bond_columns first_of
returns c = rw (good_fault _ _ _ c.in_ok-atom.ensures, good_fault _ _ _ c.in_ok-residue.ensures, good_fault _ _ _ c.in_ok-gap.ensures, good_fault _ _ _ c.in_ok-other_atom.ensures, good_fault _ _ _ c.in_ok-other.ensures, good_value _ _ _ c.in_ok-atom.ensures, good_value _ _ _ c.in_ok-residue.ensures, good_value _ _ _ c.in_ok-other_atom.ensures, good_value _ _ _ c.in_ok-other.ensures)
