use mir.Syntax.{w32}
use mir.ValLaws.{to_z-of_z}
use Rattle.std.proofs.lemmas.Result.{err_from_is_err_and}
use Rattle.columns.specs.Columns.{first_of}
use Rattle.columns.proofs.Readers.{good_fault, good_value, then_wrong, last_wrong}
use Rattle.sheet.specs.Sheets.{strand_columns}
use Rattle.sheet.proofs.Sense.{strand_fault}
use Rattle.sheet.proofs.read_strand.Goals as goal

pub returns-in_err-gap : goal.returns-in_err-gap
unfolding strand_columns first_of
returns-in_err-gap c =
    let p = err_from_is_err_and c.from_residual.result c.from_residual.ensures.1 in
    rw (p.1, p.2, strand_fault _ c.told-line) (then_wrong _ _ _ _ _ c.in_err-gap.ensures)

pub returns-in_err-strand : goal.returns-in_err-strand
unfolding strand_columns first_of
returns-in_err-strand c =
    let p = err_from_is_err_and c.from_residual-in_err-strand.result c.from_residual-in_err-strand.ensures.1 in
    rw (p.1, p.2, strand_fault _ c.told-line, good_fault _ _ _ c.in_ok-gap.ensures) (then_wrong _ _ _ _ _ c.in_err-strand.ensures)

pub returns-in_err-gap-2 : goal.returns-in_err-gap-2
unfolding strand_columns first_of
returns-in_err-gap-2 c =
    let p = err_from_is_err_and c.from_residual-in_err-gap-2.result c.from_residual-in_err-gap-2.ensures.1 in
    rw (p.1, p.2, strand_fault _ c.told-line, good_fault _ _ _ c.in_ok-gap.ensures, good_fault _ _ _ c.in_ok-strand.ensures) (then_wrong _ _ _ _ _ c.in_err-gap-2.ensures)

pub returns-in_err-id : goal.returns-in_err-id
unfolding strand_columns first_of
returns-in_err-id c =
    let p = err_from_is_err_and c.from_residual-in_err-id.result c.from_residual-in_err-id.ensures.1 in
    rw (p.1, p.2, strand_fault _ c.told-line, good_fault _ _ _ c.in_ok-gap.ensures, good_fault _ _ _ c.in_ok-strand.ensures, good_fault _ _ _ c.in_ok-gap-2.ensures) (then_wrong _ _ _ _ _ c.in_err-id.ensures)

pub returns-in_err-strands : goal.returns-in_err-strands
unfolding strand_columns first_of
returns-in_err-strands c =
    let p = err_from_is_err_and c.from_residual-in_err-strands.result c.from_residual-in_err-strands.ensures.1 in
    rw (p.1, p.2, strand_fault _ c.told-line, good_fault _ _ _ c.in_ok-gap.ensures, good_fault _ _ _ c.in_ok-strand.ensures, good_fault _ _ _ c.in_ok-gap-2.ensures, good_fault _ _ _ c.in_ok-id.ensures) (then_wrong _ _ _ _ _ c.in_err-strands.ensures)

pub returns-in_err-gap-3 : goal.returns-in_err-gap-3
unfolding strand_columns first_of
returns-in_err-gap-3 c =
    let p = err_from_is_err_and c.from_residual-in_err-gap-3.result c.from_residual-in_err-gap-3.ensures.1 in
    rw (p.1, p.2, strand_fault _ c.told-line, good_fault _ _ _ c.in_ok-gap.ensures, good_fault _ _ _ c.in_ok-strand.ensures, good_fault _ _ _ c.in_ok-gap-2.ensures, good_fault _ _ _ c.in_ok-id.ensures, good_fault _ _ _ c.in_ok-strands.ensures) (then_wrong _ _ _ _ _ c.in_err-gap-3.ensures)

pub returns-in_err-first : goal.returns-in_err-first
unfolding strand_columns first_of
returns-in_err-first c =
    let p = err_from_is_err_and c.from_residual-in_err-first.result c.from_residual-in_err-first.ensures.1 in
    rw (p.1, p.2, strand_fault _ c.told-line, good_fault _ _ _ c.in_ok-gap.ensures, good_fault _ _ _ c.in_ok-strand.ensures, good_fault _ _ _ c.in_ok-gap-2.ensures, good_fault _ _ _ c.in_ok-id.ensures, good_fault _ _ _ c.in_ok-strands.ensures, good_fault _ _ _ c.in_ok-gap-3.ensures) (then_wrong _ _ _ _ _ c.in_err-first.ensures)

pub returns-in_err-gap-4 : goal.returns-in_err-gap-4
unfolding strand_columns first_of
returns-in_err-gap-4 c =
    let p = err_from_is_err_and c.from_residual-in_err-gap-4.result c.from_residual-in_err-gap-4.ensures.1 in
    rw (p.1, p.2, strand_fault _ c.told-line, good_fault _ _ _ c.in_ok-gap.ensures, good_fault _ _ _ c.in_ok-strand.ensures, good_fault _ _ _ c.in_ok-gap-2.ensures, good_fault _ _ _ c.in_ok-id.ensures, good_fault _ _ _ c.in_ok-strands.ensures, good_fault _ _ _ c.in_ok-gap-3.ensures, good_fault _ _ _ c.in_ok-first.ensures) (then_wrong _ _ _ _ _ c.in_err-gap-4.ensures)

pub returns-in_err-last : goal.returns-in_err-last
unfolding strand_columns first_of
returns-in_err-last c =
    let p = err_from_is_err_and c.from_residual-in_err-last.result c.from_residual-in_err-last.ensures.1 in
    rw (p.1, p.2, strand_fault _ c.told-line, good_fault _ _ _ c.in_ok-gap.ensures, good_fault _ _ _ c.in_ok-strand.ensures, good_fault _ _ _ c.in_ok-gap-2.ensures, good_fault _ _ _ c.in_ok-id.ensures, good_fault _ _ _ c.in_ok-strands.ensures, good_fault _ _ _ c.in_ok-gap-3.ensures, good_fault _ _ _ c.in_ok-first.ensures, good_fault _ _ _ c.in_ok-gap-4.ensures) (then_wrong _ _ _ _ _ c.in_err-last.ensures)

pub returns-in_err-sense : goal.returns-in_err-sense
unfolding strand_columns first_of
returns-in_err-sense c =
    let p = err_from_is_err_and c.from_residual-in_err-sense.result c.from_residual-in_err-sense.ensures.1 in
    rw (p.1, p.2, strand_fault _ c.told-line, good_fault _ _ _ c.in_ok-gap.ensures, good_fault _ _ _ c.in_ok-strand.ensures, good_fault _ _ _ c.in_ok-gap-2.ensures, good_fault _ _ _ c.in_ok-id.ensures, good_fault _ _ _ c.in_ok-strands.ensures, good_fault _ _ _ c.in_ok-gap-3.ensures, good_fault _ _ _ c.in_ok-first.ensures, good_fault _ _ _ c.in_ok-gap-4.ensures, good_fault _ _ _ c.in_ok-last.ensures) (then_wrong _ _ _ _ _ c.in_err-sense.ensures)

pub returns-in_err-judged : goal.returns-in_err-judged
unfolding strand_columns first_of
returns-in_err-judged c =
    let p = err_from_is_err_and c.from_residual-in_err-judged.result c.from_residual-in_err-judged.ensures.1 in
    rw (p.1, p.2, strand_fault _ c.told-line, good_fault _ _ _ c.in_ok-gap.ensures, good_fault _ _ _ c.in_ok-strand.ensures, good_fault _ _ _ c.in_ok-gap-2.ensures, good_fault _ _ _ c.in_ok-id.ensures, good_fault _ _ _ c.in_ok-strands.ensures, good_fault _ _ _ c.in_ok-gap-3.ensures, good_fault _ _ _ c.in_ok-first.ensures, good_fault _ _ _ c.in_ok-gap-4.ensures, good_fault _ _ _ c.in_ok-last.ensures, good_fault _ _ _ c.in_ok-sense.ensures) (then_wrong _ _ _ _ _ (rw (c.is_sense.ensures, to_z-of_z w32 c.in_ok-sense.sense (search), good_value _ _ _ c.in_ok-sense.ensures) at c.in_err-judged.ensures))

pub returns-in_err-judged-2 : goal.returns-in_err-judged-2
unfolding strand_columns first_of
returns-in_err-judged-2 c =
    let p = err_from_is_err_and c.from_residual-in_err-judged-2.result c.from_residual-in_err-judged-2.ensures.1 in
    rw (p.1, p.2, strand_fault _ c.told-line, good_fault _ _ _ c.in_ok-gap.ensures, good_fault _ _ _ c.in_ok-strand.ensures, good_fault _ _ _ c.in_ok-gap-2.ensures, good_fault _ _ _ c.in_ok-id.ensures, good_fault _ _ _ c.in_ok-strands.ensures, good_fault _ _ _ c.in_ok-gap-3.ensures, good_fault _ _ _ c.in_ok-first.ensures, good_fault _ _ _ c.in_ok-gap-4.ensures, good_fault _ _ _ c.in_ok-last.ensures, good_fault _ _ _ c.in_ok-sense.ensures, good_fault _ _ _ (rw (c.is_sense.ensures, to_z-of_z w32 c.in_ok-sense.sense (search), good_value _ _ _ c.in_ok-sense.ensures) at c.in_ok-judged.ensures)) (last_wrong _ _ _ _ (rw (c.sense_fits.ensures, to_z-of_z w32 c.in_ok-sense.sense (search), good_value _ _ _ c.in_ok-strand.ensures, good_value _ _ _ c.in_ok-sense.ensures) at c.in_err-judged-2.ensures))

pub returns : goal.returns
unfolding strand_columns first_of
returns c = rw (strand_fault _ c.told-line, good_fault _ _ _ c.in_ok-gap.ensures, good_fault _ _ _ c.in_ok-strand.ensures, good_fault _ _ _ c.in_ok-gap-2.ensures, good_fault _ _ _ c.in_ok-id.ensures, good_fault _ _ _ c.in_ok-strands.ensures, good_fault _ _ _ c.in_ok-gap-3.ensures, good_fault _ _ _ c.in_ok-first.ensures, good_fault _ _ _ c.in_ok-gap-4.ensures, good_fault _ _ _ c.in_ok-last.ensures, good_fault _ _ _ c.in_ok-sense.ensures, good_fault _ _ _ (rw (c.is_sense.ensures, to_z-of_z w32 c.in_ok-sense.sense (search), good_value _ _ _ c.in_ok-sense.ensures) at c.in_ok-judged.ensures), good_fault _ _ _ (rw (c.sense_fits.ensures, to_z-of_z w32 c.in_ok-sense.sense (search), good_value _ _ _ c.in_ok-strand.ensures, good_value _ _ _ c.in_ok-sense.ensures) at c.in_ok-judged-2.ensures), good_value _ _ _ c.in_ok-strand.ensures, good_value _ _ _ c.in_ok-id.ensures, good_value _ _ _ c.in_ok-strands.ensures, good_value _ _ _ c.in_ok-first.ensures, good_value _ _ _ c.in_ok-last.ensures, to_z-of_z w32 c.in_ok-sense.sense (search), good_value _ _ _ c.in_ok-sense.ensures)
