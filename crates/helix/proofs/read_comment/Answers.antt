use Rattle.std.proofs.lemmas.Result.{err_from_is_err_and}
use Rattle.columns.specs.Columns.{first_of}
use Rattle.columns.proofs.Readers.{good_fault, good_value, then_wrong, last_wrong}
use Rattle.helix.specs.Helices.{comment_columns}
use Rattle.helix.proofs.read_comment.Goals as goal

pub returns-in_err-a : goal.returns-in_err-a
unfolding comment_columns first_of
returns-in_err-a c =
    let p = err_from_is_err_and c.from_residual.result c.from_residual.ensures.1 in
    rw (p.1, p.2) (then_wrong _ _ _ _ _ c.in_err-a.ensures)

pub returns-in_err-b : goal.returns-in_err-b
unfolding comment_columns first_of
returns-in_err-b c =
    let p = err_from_is_err_and c.from_residual-in_err-b.result c.from_residual-in_err-b.ensures.1 in
    rw (p.1, p.2, good_fault _ _ _ c.in_ok-a.ensures) (then_wrong _ _ _ _ _ c.in_err-b.ensures)

pub returns-in_err-c : goal.returns-in_err-c
unfolding comment_columns first_of
returns-in_err-c c =
    let p = err_from_is_err_and c.from_residual-in_err-c.result c.from_residual-in_err-c.ensures.1 in
    rw (p.1, p.2, good_fault _ _ _ c.in_ok-a.ensures, good_fault _ _ _ c.in_ok-b.ensures) (then_wrong _ _ _ _ _ c.in_err-c.ensures)

pub returns-in_err-d : goal.returns-in_err-d
unfolding comment_columns first_of
returns-in_err-d c =
    let p = err_from_is_err_and c.from_residual-in_err-d.result c.from_residual-in_err-d.ensures.1 in
    rw (p.1, p.2, good_fault _ _ _ c.in_ok-a.ensures, good_fault _ _ _ c.in_ok-b.ensures, good_fault _ _ _ c.in_ok-c.ensures) (last_wrong _ _ _ _ c.in_err-d.ensures)

pub returns : goal.returns
unfolding comment_columns first_of
returns c = rw (good_fault _ _ _ c.in_ok-a.ensures, good_fault _ _ _ c.in_ok-b.ensures, good_fault _ _ _ c.in_ok-c.ensures, good_fault _ _ _ c.in_ok-d.ensures, good_value _ _ _ c.in_ok-a.ensures, good_value _ _ _ c.in_ok-b.ensures, good_value _ _ _ c.in_ok-c.ensures, good_value _ _ _ c.in_ok-d.ensures)
