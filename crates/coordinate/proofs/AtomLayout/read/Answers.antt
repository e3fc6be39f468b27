use Rattle.std.proofs.lemmas.Result.{err_from_is_err_and}
use mathlib.Core.Path.{sym, ◌∙◌}
use Rattle.columns.proofs.Faults.{first_join}
use Rattle.columns.proofs.Readers.{read_good, good_fault, good_value, then_good, then_wrong, last_wrong}
use Rattle.coordinate.proofs.Order.{atom_order}
use Rattle.coordinate.proofs.AtomLayout.read.Goals as goal

pub returns-in_err-identity : goal.returns-in_err-identity
returns-in_err-identity c =
    let p = err_from_is_err_and c.from_residual.result c.from_residual.ensures.1 in
    rw (p.1, p.2) (then_wrong _ _ _ _ _ c.in_err-identity.ensures ∙ sym (atom_order c.args.line.now c.told-line))

pub returns-in_err-gap : goal.returns-in_err-gap
returns-in_err-gap c =
    let p = err_from_is_err_and c.from_residual-in_err-gap.result c.from_residual-in_err-gap.ensures.1 in
    rw (p.1, p.2) (then_wrong _ _ _ _ _ c.in_err-gap.ensures ∙ sym (then_good _ _ _ _ _ c.in_ok-identity.ensures) ∙ sym (atom_order c.args.line.now c.told-line))

pub returns-in_err-measure : goal.returns-in_err-measure
returns-in_err-measure c =
    let p = err_from_is_err_and c.from_residual-in_err-measure.result c.from_residual-in_err-measure.ensures.1 in
    rw (p.1, p.2) (then_wrong _ _ _ _ _ c.in_err-measure.ensures ∙ sym (then_good _ _ _ _ _ c.in_ok-gap.ensures) ∙ sym (then_good _ _ _ _ _ c.in_ok-identity.ensures) ∙ sym (atom_order c.args.line.now c.told-line))

pub returns-in_err-gap-2 : goal.returns-in_err-gap-2
returns-in_err-gap-2 c =
    let p = err_from_is_err_and c.from_residual-in_err-gap-2.result c.from_residual-in_err-gap-2.ensures.1 in
    rw (p.1, p.2) (then_wrong _ _ _ _ _ c.in_err-gap-2.ensures ∙ sym (then_good _ _ _ _ _ c.in_ok-measure.ensures) ∙ sym (then_good _ _ _ _ _ c.in_ok-gap.ensures) ∙ sym (then_good _ _ _ _ _ c.in_ok-identity.ensures) ∙ sym (atom_order c.args.line.now c.told-line))

pub returns-in_err-species : goal.returns-in_err-species
returns-in_err-species c =
    let p = err_from_is_err_and c.from_residual-in_err-species.result c.from_residual-in_err-species.ensures.1 in
    rw (p.1, p.2) (last_wrong _ _ _ _ (rw (good_value _ _ _ c.in_ok-identity.ensures) at c.in_err-species.ensures) ∙ sym (then_good _ _ _ _ _ c.in_ok-gap-2.ensures) ∙ sym (then_good _ _ _ _ _ c.in_ok-measure.ensures) ∙ sym (then_good _ _ _ _ _ c.in_ok-gap.ensures) ∙ sym (then_good _ _ _ _ _ c.in_ok-identity.ensures) ∙ sym (atom_order c.args.line.now c.told-line))

pub returns : goal.returns
returns c = rw (good_value _ _ _ (rw (good_value _ _ _ c.in_ok-identity.ensures) at c.in_ok-species.ensures), good_value _ _ _ c.in_ok-identity.ensures, good_value _ _ _ c.in_ok-measure.ensures) (read_good _ _ (first_join _ _ (good_fault _ _ _ c.in_ok-identity.ensures) (first_join _ _ (good_fault _ _ _ c.in_ok-gap.ensures) (first_join _ _ (good_fault _ _ _ c.in_ok-measure.ensures) (first_join _ _ (good_fault _ _ _ c.in_ok-gap-2.ensures) (good_fault _ _ _ (rw (good_value _ _ _ c.in_ok-identity.ensures) at c.in_ok-species.ensures)))))) ∙ sym (atom_order c.args.line.now c.told-line))
