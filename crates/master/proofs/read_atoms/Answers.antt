use Rattle.std.proofs.lemmas.Result.{err_from_is_err_and}
use Rattle.columns.specs.Columns.{first_of}
use Rattle.columns.proofs.Readers.{good_fault, good_value, then_wrong, last_wrong}
use Rattle.master.specs.Masters.{atoms_columns}
use Rattle.master.proofs.read_atoms.Goals as goal

pub returns-in_err-coord : goal.returns-in_err-coord
unfolding atoms_columns first_of
returns-in_err-coord c =
    let p = err_from_is_err_and c.from_residual.result c.from_residual.ensures.1 in
    rw (p.1, p.2) (then_wrong _ _ _ _ _ c.in_err-coord.ensures)

pub returns-in_err-ter : goal.returns-in_err-ter
unfolding atoms_columns first_of
returns-in_err-ter c =
    let p = err_from_is_err_and c.from_residual-in_err-ter.result c.from_residual-in_err-ter.ensures.1 in
    rw (p.1, p.2, good_fault _ _ _ c.in_ok-coord.ensures) (then_wrong _ _ _ _ _ c.in_err-ter.ensures)

pub returns-in_err-conect : goal.returns-in_err-conect
unfolding atoms_columns first_of
returns-in_err-conect c =
    let p = err_from_is_err_and c.from_residual-in_err-conect.result c.from_residual-in_err-conect.ensures.1 in
    rw (p.1, p.2, good_fault _ _ _ c.in_ok-coord.ensures, good_fault _ _ _ c.in_ok-ter.ensures) (then_wrong _ _ _ _ _ c.in_err-conect.ensures)

pub returns-in_err-seq : goal.returns-in_err-seq
unfolding atoms_columns first_of
returns-in_err-seq c =
    let p = err_from_is_err_and c.from_residual-in_err-seq.result c.from_residual-in_err-seq.ensures.1 in
    rw (p.1, p.2, good_fault _ _ _ c.in_ok-coord.ensures, good_fault _ _ _ c.in_ok-ter.ensures, good_fault _ _ _ c.in_ok-conect.ensures) (last_wrong _ _ _ _ c.in_err-seq.ensures)

pub returns : goal.returns
unfolding atoms_columns first_of
returns c = rw (good_fault _ _ _ c.in_ok-coord.ensures, good_fault _ _ _ c.in_ok-ter.ensures, good_fault _ _ _ c.in_ok-conect.ensures, good_fault _ _ _ c.in_ok-seq.ensures, good_value _ _ _ c.in_ok-coord.ensures, good_value _ _ _ c.in_ok-ter.ensures, good_value _ _ _ c.in_ok-conect.ensures, good_value _ _ _ c.in_ok-seq.ensures)
