use Rattle.std.proofs.lemmas.Result.{err_from_is_err_and}
use Rattle.columns.specs.Columns.{first_of}
use Rattle.columns.proofs.Readers.{good_fault, good_value, then_wrong, last_wrong}
use Rattle.helix.specs.Helices.{extent_columns}
use Rattle.helix.proofs.Extents.{extent_fault, last_read}
use Rattle.helix.proofs.read_extent.Goals as goal

pub returns-in_err-gap : goal.returns-in_err-gap
unfolding extent_columns first_of
returns-in_err-gap c =
    let p = err_from_is_err_and c.from_residual.result c.from_residual.ensures.1 in
    rw (p.1, p.2, extent_fault _ c.told-line) (then_wrong _ _ _ _ _ c.in_err-gap.ensures)

pub returns-in_err-serial : goal.returns-in_err-serial
unfolding extent_columns first_of
returns-in_err-serial c =
    let p = err_from_is_err_and c.from_residual-in_err-serial.result c.from_residual-in_err-serial.ensures.1 in
    rw (p.1, p.2, extent_fault _ c.told-line, good_fault _ _ _ c.in_ok-gap.ensures) (then_wrong _ _ _ _ _ c.in_err-serial.ensures)

pub returns-in_err-gap-2 : goal.returns-in_err-gap-2
unfolding extent_columns first_of
returns-in_err-gap-2 c =
    let p = err_from_is_err_and c.from_residual-in_err-gap-2.result c.from_residual-in_err-gap-2.ensures.1 in
    rw (p.1, p.2, extent_fault _ c.told-line, good_fault _ _ _ c.in_ok-gap.ensures, good_fault _ _ _ c.in_ok-serial.ensures) (then_wrong _ _ _ _ _ c.in_err-gap-2.ensures)

pub returns-in_err-id : goal.returns-in_err-id
unfolding extent_columns first_of
returns-in_err-id c =
    let p = err_from_is_err_and c.from_residual-in_err-id.result c.from_residual-in_err-id.ensures.1 in
    rw (p.1, p.2, extent_fault _ c.told-line, good_fault _ _ _ c.in_ok-gap.ensures, good_fault _ _ _ c.in_ok-serial.ensures, good_fault _ _ _ c.in_ok-gap-2.ensures) (then_wrong _ _ _ _ _ c.in_err-id.ensures)

pub returns-in_err-gap-3 : goal.returns-in_err-gap-3
unfolding extent_columns first_of
returns-in_err-gap-3 c =
    let p = err_from_is_err_and c.from_residual-in_err-gap-3.result c.from_residual-in_err-gap-3.ensures.1 in
    rw (p.1, p.2, extent_fault _ c.told-line, good_fault _ _ _ c.in_ok-gap.ensures, good_fault _ _ _ c.in_ok-serial.ensures, good_fault _ _ _ c.in_ok-gap-2.ensures, good_fault _ _ _ c.in_ok-id.ensures) (then_wrong _ _ _ _ _ c.in_err-gap-3.ensures)

pub returns-in_err-first : goal.returns-in_err-first
unfolding extent_columns first_of
returns-in_err-first c =
    let p = err_from_is_err_and c.from_residual-in_err-first.result c.from_residual-in_err-first.ensures.1 in
    rw (p.1, p.2, extent_fault _ c.told-line, good_fault _ _ _ c.in_ok-gap.ensures, good_fault _ _ _ c.in_ok-serial.ensures, good_fault _ _ _ c.in_ok-gap-2.ensures, good_fault _ _ _ c.in_ok-id.ensures, good_fault _ _ _ c.in_ok-gap-3.ensures) (then_wrong _ _ _ _ _ c.in_err-first.ensures)

pub returns-in_err-gap-4 : goal.returns-in_err-gap-4
unfolding extent_columns first_of
returns-in_err-gap-4 c =
    let p = err_from_is_err_and c.from_residual-in_err-gap-4.result c.from_residual-in_err-gap-4.ensures.1 in
    rw (p.1, p.2, extent_fault _ c.told-line, good_fault _ _ _ c.in_ok-gap.ensures, good_fault _ _ _ c.in_ok-serial.ensures, good_fault _ _ _ c.in_ok-gap-2.ensures, good_fault _ _ _ c.in_ok-id.ensures, good_fault _ _ _ c.in_ok-gap-3.ensures, good_fault _ _ _ c.in_ok-first.ensures) (then_wrong _ _ _ _ _ c.in_err-gap-4.ensures)

pub returns-in_err-last : goal.returns-in_err-last
unfolding extent_columns first_of
returns-in_err-last c =
    let p = err_from_is_err_and c.from_residual-in_err-last.result c.from_residual-in_err-last.ensures.1 in
    rw (p.1, p.2, extent_fault _ c.told-line, ← good_value _ _ _ c.in_ok-first.ensures, good_fault _ _ _ c.in_ok-gap.ensures, good_fault _ _ _ c.in_ok-serial.ensures, good_fault _ _ _ c.in_ok-gap-2.ensures, good_fault _ _ _ c.in_ok-id.ensures, good_fault _ _ _ c.in_ok-gap-3.ensures, good_fault _ _ _ c.in_ok-first.ensures, good_fault _ _ _ c.in_ok-gap-4.ensures) (last_wrong _ _ _ _ (last_read _ _ _ _ _ _ c.in_err-last.ensures c.read_residue-2.ensures c.judged-chain.ensures))

pub returns : goal.returns
unfolding extent_columns first_of
returns c = rw (extent_fault _ c.told-line, ← good_value _ _ _ c.in_ok-first.ensures, good_fault _ _ _ c.in_ok-gap.ensures, good_fault _ _ _ c.in_ok-serial.ensures, good_fault _ _ _ c.in_ok-gap-2.ensures, good_fault _ _ _ c.in_ok-id.ensures, good_fault _ _ _ c.in_ok-gap-3.ensures, good_fault _ _ _ c.in_ok-first.ensures, good_fault _ _ _ c.in_ok-gap-4.ensures, good_fault _ _ _ (last_read _ _ _ _ _ _ c.in_ok-last.ensures c.read_residue-2.ensures c.judged-chain.ensures), good_value _ _ _ c.in_ok-serial.ensures, good_value _ _ _ c.in_ok-id.ensures, good_value _ _ _ (last_read _ _ _ _ _ _ c.in_ok-last.ensures c.read_residue-2.ensures c.judged-chain.ensures))
