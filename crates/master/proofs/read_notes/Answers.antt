use Rattle.std.proofs.lemmas.Result.{err_from_is_err_and}
use Rattle.columns.specs.Columns.{first_of}
use Rattle.columns.proofs.Readers.{good_fault, good_value, then_wrong, last_wrong}
use Rattle.master.specs.Masters.{notes_columns}
use Rattle.master.proofs.read_notes.Goals as goal

pub returns-in_err-remark : goal.returns-in_err-remark
unfolding notes_columns first_of
returns-in_err-remark c =
    let p = err_from_is_err_and c.from_residual.result c.from_residual.ensures.1 in
    rw (p.1, p.2) (then_wrong _ _ _ _ _ c.in_err-remark.ensures)

pub returns-in_err-read_whole : goal.returns-in_err-read_whole
unfolding notes_columns first_of
returns-in_err-read_whole c =
    let p = err_from_is_err_and c.from_residual-in_err-read_whole.result c.from_residual-in_err-read_whole.ensures.1 in
    rw (p.1, p.2, good_fault _ _ _ c.in_ok-remark.ensures) (then_wrong _ _ _ _ _ c.in_err-read_whole.ensures)

pub returns-in_err-het : goal.returns-in_err-het
unfolding notes_columns first_of
returns-in_err-het c =
    let p = err_from_is_err_and c.from_residual-in_err-het.result c.from_residual-in_err-het.ensures.1 in
    rw (p.1, p.2, good_fault _ _ _ c.in_ok-remark.ensures, good_fault _ _ _ c.in_ok-read_whole.ensures) (then_wrong _ _ _ _ _ c.in_err-het.ensures)

pub returns-in_err-helix : goal.returns-in_err-helix
unfolding notes_columns first_of
returns-in_err-helix c =
    let p = err_from_is_err_and c.from_residual-in_err-helix.result c.from_residual-in_err-helix.ensures.1 in
    rw (p.1, p.2, good_fault _ _ _ c.in_ok-remark.ensures, good_fault _ _ _ c.in_ok-read_whole.ensures, good_fault _ _ _ c.in_ok-het.ensures) (last_wrong _ _ _ _ c.in_err-helix.ensures)

pub returns : goal.returns
unfolding notes_columns first_of
returns c = rw (good_fault _ _ _ c.in_ok-remark.ensures, good_fault _ _ _ c.in_ok-read_whole.ensures, good_fault _ _ _ c.in_ok-het.ensures, good_fault _ _ _ c.in_ok-helix.ensures, good_value _ _ _ c.in_ok-remark.ensures, good_value _ _ _ c.in_ok-het.ensures, good_value _ _ _ c.in_ok-helix.ensures)
