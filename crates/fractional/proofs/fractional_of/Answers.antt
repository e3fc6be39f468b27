use mathlib.Core.Path.{◌∙◌}
use Rattle.std.proofs.lemmas.Result.{err_from_is_err_and}
use Rattle.fractional.proofs.Looking.{place_by}
use Rattle.fractional.proofs.fractional_of.Goals as goal

pub returns-in_err-rows : goal.returns-in_err-rows
returns-in_err-rows c =
    let p = err_from_is_err_and c.from_residual.result c.from_residual.ensures.1 in
    rw (p.1, p.2) (place_by _ c.args.p _ c.in_err-rows.ensures)

pub returns : goal.returns
returns c = c.place.ensures ∙ place_by _ c.args.p _ c.in_ok-rows.ensures
