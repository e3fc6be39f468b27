use Rattle.std.proofs.lemmas.Result.{err_from_is_err_and}
use Rattle.columns.specs.Columns.{first_of}
use Rattle.columns.proofs.Readers.{good_fault, then_wrong}
use Rattle.line.proofs.BareLayout.read.Goals as goal

pub returns-in_err-gap : goal.returns-in_err-gap
unfolding first_of
returns-in_err-gap c =
    let p = err_from_is_err_and c.from_residual.result c.from_residual.ensures.1 in
    rw (p.1, p.2) (then_wrong _ _ _ _ _ c.in_err-gap.ensures)

pub returns : goal.returns
unfolding first_of
returns c = rw (good_fault _ _ _ c.in_ok-gap.ensures)
