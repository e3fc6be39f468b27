use Rattle.std.proofs.lemmas.Result.{err_from_is_err_and}
use mathlib.Core.Path.{sym, ◌∙◌}
use Rattle.columns.proofs.Readers.{then_wrong}
use Rattle.conect.proofs.Order.{conect_order, after_serial, wrong_first, after_first, wrong_second, after_second, wrong_third, after_third, wrong_fourth, after_fourth, all_good}
use Rattle.conect.proofs.ConectLayout.read.Goals as goal

pub returns-in_err-s : goal.returns-in_err-s
returns-in_err-s c =
    let p = err_from_is_err_and c.from_residual.result c.from_residual.ensures.1 in
    rw (p.1, p.2) (then_wrong _ _ _ _ _ c.in_err-s.ensures ∙ sym (conect_order _))

pub returns-in_err-a : goal.returns-in_err-a
returns-in_err-a c =
    let p = err_from_is_err_and c.from_residual-in_err-a.result c.from_residual-in_err-a.ensures.1 in
    rw (p.1, p.2) (then_wrong _ _ _ _ _ c.in_err-a.ensures ∙ sym (after_serial _ _ c.in_ok-s.ensures))

pub returns-in_err-judged : goal.returns-in_err-judged
returns-in_err-judged c =
    let p = err_from_is_err_and c.from_residual-in_err-judged.result c.from_residual-in_err-judged.ensures.1 in
    rw (p.1, p.2) (wrong_first _ _ c.in_ok-s.ensures _ c.in_ok-a.ensures _ c.other.ensures _ c.in_err-judged.ensures)

pub returns-in_err-b : goal.returns-in_err-b
returns-in_err-b c =
    let p = err_from_is_err_and c.from_residual-in_err-b.result c.from_residual-in_err-b.ensures.1 in
    rw (p.1, p.2) (then_wrong _ _ _ _ _ c.in_err-b.ensures ∙ sym (after_first _ _ c.in_ok-s.ensures _ c.in_ok-a.ensures _ c.other.ensures c.in_ok-judged.ensures))

pub returns-in_err-judged-2 : goal.returns-in_err-judged-2
returns-in_err-judged-2 c =
    let p = err_from_is_err_and c.from_residual-in_err-judged-2.result c.from_residual-in_err-judged-2.ensures.1 in
    rw (p.1, p.2) (wrong_second _ _ c.in_ok-s.ensures _ c.in_ok-a.ensures _ c.other.ensures c.in_ok-judged.ensures _ c.in_ok-b.ensures _ c.other-2.ensures _ c.in_err-judged-2.ensures)

pub returns-in_err-c : goal.returns-in_err-c
returns-in_err-c c =
    let p = err_from_is_err_and c.from_residual-in_err-c.result c.from_residual-in_err-c.ensures.1 in
    rw (p.1, p.2) (then_wrong _ _ _ _ _ c.in_err-c.ensures ∙ sym (after_second _ _ c.in_ok-s.ensures _ c.in_ok-a.ensures _ c.other.ensures c.in_ok-judged.ensures _ c.in_ok-b.ensures _ c.other-2.ensures c.in_ok-judged-2.ensures))

pub returns-in_err-judged-3 : goal.returns-in_err-judged-3
returns-in_err-judged-3 c =
    let p = err_from_is_err_and c.from_residual-in_err-judged-3.result c.from_residual-in_err-judged-3.ensures.1 in
    rw (p.1, p.2) (wrong_third _ _ c.in_ok-s.ensures _ c.in_ok-a.ensures _ c.other.ensures c.in_ok-judged.ensures _ c.in_ok-b.ensures _ c.other-2.ensures c.in_ok-judged-2.ensures _ c.in_ok-c.ensures _ _ c.other-3.ensures c.in_turn.ensures _ c.in_err-judged-3.ensures)

pub returns-in_err-d : goal.returns-in_err-d
returns-in_err-d c =
    let p = err_from_is_err_and c.from_residual-in_err-d.result c.from_residual-in_err-d.ensures.1 in
    rw (p.1, p.2) (then_wrong _ _ _ _ _ c.in_err-d.ensures ∙ sym (after_third _ _ c.in_ok-s.ensures _ c.in_ok-a.ensures _ c.other.ensures c.in_ok-judged.ensures _ c.in_ok-b.ensures _ c.other-2.ensures c.in_ok-judged-2.ensures _ c.in_ok-c.ensures _ _ c.other-3.ensures c.in_turn.ensures c.in_ok-judged-3.ensures))

pub returns-in_err-judged-4 : goal.returns-in_err-judged-4
returns-in_err-judged-4 c =
    let p = err_from_is_err_and c.from_residual-in_err-judged-4.result c.from_residual-in_err-judged-4.ensures.1 in
    rw (p.1, p.2) (wrong_fourth _ _ c.in_ok-s.ensures _ c.in_ok-a.ensures _ c.other.ensures c.in_ok-judged.ensures _ c.in_ok-b.ensures _ c.other-2.ensures c.in_ok-judged-2.ensures _ c.in_ok-c.ensures _ _ c.other-3.ensures c.in_turn.ensures c.in_ok-judged-3.ensures _ c.in_ok-d.ensures _ _ c.other-4.ensures c.in_turn-2.ensures _ c.in_err-judged-4.ensures)

pub returns-in_err-gap : goal.returns-in_err-gap
returns-in_err-gap c =
    let p = err_from_is_err_and c.from_residual-in_err-gap.result c.from_residual-in_err-gap.ensures.1 in
    rw (p.1, p.2) (then_wrong _ _ _ _ _ c.in_err-gap.ensures ∙ sym (after_fourth _ _ c.in_ok-s.ensures _ c.in_ok-a.ensures _ c.other.ensures c.in_ok-judged.ensures _ c.in_ok-b.ensures _ c.other-2.ensures c.in_ok-judged-2.ensures _ c.in_ok-c.ensures _ _ c.other-3.ensures c.in_turn.ensures c.in_ok-judged-3.ensures _ c.in_ok-d.ensures _ _ c.other-4.ensures c.in_turn-2.ensures c.in_ok-judged-4.ensures))

pub returns : goal.returns
returns c = all_good _ _ c.in_ok-s.ensures _ c.in_ok-a.ensures _ c.other.ensures c.in_ok-judged.ensures _ c.in_ok-b.ensures _ c.other-2.ensures c.in_ok-judged-2.ensures _ c.in_ok-c.ensures _ _ c.other-3.ensures c.in_turn.ensures c.in_ok-judged-3.ensures _ c.in_ok-d.ensures _ _ c.other-4.ensures c.in_turn-2.ensures c.in_ok-judged-4.ensures c.in_ok-gap.ensures
