use mir.Syntax.{w32}
use mir.ValLaws.{to_z-of_z}
use Rattle.std.proofs.lemmas.Result.{err_from_is_err_and}
use Rattle.columns.specs.Columns.{first_of}
use Rattle.columns.proofs.Readers.{good_fault, good_value, then_wrong, last_wrong}
use Rattle.coordinate.specs.Atoms.{measure_columns}
use Rattle.coordinate.proofs.read_measure.Goals as goal

pub returns-in_err-position : goal.returns-in_err-position
unfolding measure_columns first_of
returns-in_err-position c =
    let p = err_from_is_err_and c.from_residual.result c.from_residual.ensures.1 in
    rw (p.1, p.2) (then_wrong _ _ _ _ _ c.in_err-position.ensures)

pub returns-in_err-occupancy : goal.returns-in_err-occupancy
unfolding measure_columns first_of
returns-in_err-occupancy c =
    let p = err_from_is_err_and c.from_residual-in_err-occupancy.result c.from_residual-in_err-occupancy.ensures.1 in
    rw (p.1, p.2, good_fault _ _ _ c.in_ok-position.ensures) (then_wrong _ _ _ _ _ c.in_err-occupancy.ensures)

pub returns-in_err-temperature : goal.returns-in_err-temperature
unfolding measure_columns first_of
returns-in_err-temperature c =
    let p = err_from_is_err_and c.from_residual-in_err-temperature.result c.from_residual-in_err-temperature.ensures.1 in
    rw (p.1, p.2, good_fault _ _ _ c.in_ok-position.ensures, good_fault _ _ _ c.in_ok-occupancy.ensures) (last_wrong _ _ _ _ c.in_err-temperature.ensures)

pub returns : goal.returns
unfolding measure_columns first_of
returns c = rw (good_fault _ _ _ c.in_ok-position.ensures, good_fault _ _ _ c.in_ok-occupancy.ensures, good_fault _ _ _ c.in_ok-temperature.ensures, good_value _ _ _ c.in_ok-position.ensures, good_value _ _ _ c.in_ok-occupancy.ensures, to_z-of_z w32 c.in_ok-temperature.temperature (search), good_value _ _ _ c.in_ok-temperature.ensures)
