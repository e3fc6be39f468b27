use Rattle.std.proofs.lemmas.Result.{err_from_is_err_and}
use mathlib.Core.Path.{sym, ◌∙◌}
use Rattle.columns.proofs.Faults.{first_join}
use Rattle.columns.proofs.Readers.{read_good, good_fault, good_value, then_good, then_wrong, last_wrong}
use Rattle.coordinate.specs.Atoms.{species_columns}
use Rattle.coordinate.proofs.Order.{species_order}
use Rattle.coordinate.proofs.read_species.Goals as goal

pub returns-in_err-element : goal.returns-in_err-element
returns-in_err-element c =
    let p = err_from_is_err_and c.from_residual.result c.from_residual.ensures.1 in
    rw (p.1, p.2) (then_wrong _ _ _ _ _ c.in_err-element.ensures ∙ sym (species_order c.args.line.now c.args.name))

pub returns-in_err-judged : goal.returns-in_err-judged
returns-in_err-judged c =
    let p = err_from_is_err_and c.from_residual-in_err-judged.result c.from_residual-in_err-judged.ensures.1 in
    rw (p.1, p.2) (then_wrong _ _ _ _ _ (rw (c.leads.ensures, good_value _ _ _ c.in_ok-element.ensures) at c.in_err-judged.ensures) ∙ sym (then_good _ _ _ _ _ c.in_ok-element.ensures) ∙ sym (species_order c.args.line.now c.args.name))

pub returns-in_err-charge : goal.returns-in_err-charge
returns-in_err-charge c =
    let p = err_from_is_err_and c.from_residual-in_err-charge.result c.from_residual-in_err-charge.ensures.1 in
    rw (p.1, p.2) (last_wrong _ _ _ _ c.in_err-charge.ensures ∙ sym (then_good _ _ _ _ _ (rw (c.leads.ensures, good_value _ _ _ c.in_ok-element.ensures) at c.in_ok-judged.ensures)) ∙ sym (then_good _ _ _ _ _ c.in_ok-element.ensures) ∙ sym (species_order c.args.line.now c.args.name))

pub returns : goal.returns
unfolding species_columns
returns c = rw (good_value _ _ _ c.in_ok-element.ensures, good_value _ _ _ c.in_ok-charge.ensures) (read_good _ _ (first_join _ _ (good_fault _ _ _ c.in_ok-element.ensures) (first_join _ _ (good_fault _ _ _ (rw (c.leads.ensures, good_value _ _ _ c.in_ok-element.ensures) at c.in_ok-judged.ensures)) (good_fault _ _ _ c.in_ok-charge.ensures))) ∙ sym (species_order c.args.line.now c.args.name))
