use Rattle.std.proofs.lemmas.Result.{err_from_is_err_and}
use Rattle.columns.specs.Columns.{first_of}
use Rattle.columns.proofs.Readers.{good_fault, good_value, then_wrong}
use Rattle.helix.specs.Helices.{helix_columns}
use Rattle.helix.proofs.HelixLayout.read.Goals as goal

pub returns-in_err-extent : goal.returns-in_err-extent
unfolding helix_columns first_of
returns-in_err-extent c =
    let p = err_from_is_err_and c.from_residual.result c.from_residual.ensures.1 in
    rw (p.1, p.2) (then_wrong _ _ _ _ _ c.in_err-extent.ensures)

pub returns-in_err-class : goal.returns-in_err-class
unfolding helix_columns first_of
returns-in_err-class c =
    let p = err_from_is_err_and c.from_residual-in_err-class.result c.from_residual-in_err-class.ensures.1 in
    rw (p.1, p.2, good_fault _ _ _ c.in_ok-extent.ensures) (then_wrong _ _ _ _ _ c.in_err-class.ensures)

pub returns-in_err-comment : goal.returns-in_err-comment
unfolding helix_columns first_of
returns-in_err-comment c =
    let p = err_from_is_err_and c.from_residual-in_err-comment.result c.from_residual-in_err-comment.ensures.1 in
    rw (p.1, p.2, good_fault _ _ _ c.in_ok-extent.ensures, good_fault _ _ _ c.in_ok-class.ensures) (then_wrong _ _ _ _ _ c.in_err-comment.ensures)

pub returns-in_err-gap : goal.returns-in_err-gap
unfolding helix_columns first_of
returns-in_err-gap c =
    let p = err_from_is_err_and c.from_residual-in_err-gap.result c.from_residual-in_err-gap.ensures.1 in
    rw (p.1, p.2, good_fault _ _ _ c.in_ok-extent.ensures, good_fault _ _ _ c.in_ok-class.ensures, good_fault _ _ _ c.in_ok-comment.ensures) (then_wrong _ _ _ _ _ c.in_err-gap.ensures)

pub returns-in_err-length : goal.returns-in_err-length
unfolding helix_columns first_of
returns-in_err-length c =
    let p = err_from_is_err_and c.from_residual-in_err-length.result c.from_residual-in_err-length.ensures.1 in
    rw (p.1, p.2, good_fault _ _ _ c.in_ok-extent.ensures, good_fault _ _ _ c.in_ok-class.ensures, good_fault _ _ _ c.in_ok-comment.ensures, good_fault _ _ _ c.in_ok-gap.ensures) (then_wrong _ _ _ _ _ c.in_err-length.ensures)

pub returns-in_err-gap-2 : goal.returns-in_err-gap-2
unfolding helix_columns first_of
returns-in_err-gap-2 c =
    let p = err_from_is_err_and c.from_residual-in_err-gap-2.result c.from_residual-in_err-gap-2.ensures.1 in
    rw (p.1, p.2, good_fault _ _ _ c.in_ok-extent.ensures, good_fault _ _ _ c.in_ok-class.ensures, good_fault _ _ _ c.in_ok-comment.ensures, good_fault _ _ _ c.in_ok-gap.ensures, good_fault _ _ _ c.in_ok-length.ensures) (then_wrong _ _ _ _ _ c.in_err-gap-2.ensures)

pub returns : goal.returns
unfolding helix_columns first_of
returns c = rw (good_fault _ _ _ c.in_ok-extent.ensures, good_fault _ _ _ c.in_ok-class.ensures, good_fault _ _ _ c.in_ok-comment.ensures, good_fault _ _ _ c.in_ok-gap.ensures, good_fault _ _ _ c.in_ok-length.ensures, good_fault _ _ _ c.in_ok-gap-2.ensures, good_value _ _ _ c.in_ok-extent.ensures, good_value _ _ _ c.in_ok-class.ensures, good_value _ _ _ c.in_ok-comment.ensures, good_value _ _ _ c.in_ok-length.ensures)
