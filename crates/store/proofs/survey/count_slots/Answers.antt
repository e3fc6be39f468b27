use borrow.Author.Rules.{rules}
use mathlib.Core.Path.{refl, ap, ◌∙◌}
use native.Mathlib.Omega.{arith}
use Rattle.gate.specs.Gate.{Verdict}
use Rattle.gate.specs.Gate.{refused_of}
use Rattle.gate.proofs.Sofar.{sofar_start, sofar_rising, sofar_reached, sofar_done, turn_refused, turn_next, turn_watched, watched_on}
use Rattle.store.proofs.Lines.{need_step, need_done}
use lib.ListN.{length}
use Prim.Native.Nat.{◌*◌, ◌<◌, ◌≤◌}
use Rattle.store.proofs.Answers.{never_zero}
use Rattle.refusals.proofs.Passed.{handed_on}
use Rattle.store.proofs.survey.count_slots.Goals as goal

pub loop-i-init : goal.loop-i-init
loop-i-init c = (sofar_start _ _ _ c.start-c.ensures.state_value.0 c.start-c.ensures.state_value.1 c.start-c.ensures.state_value.2, omega arith, omega arith, watched_on _ _ _ _ c.start-c.ensures.state_value.1 (c.start-c.ensures.by_index _))

pub line_at-l-requires : goal.line_at-l-requires
line_at-l-requires c = omega arith

pub turn-requires : goal.turn-requires
turn-requires c = record {
  i_in_bounds = (omega arith, c.line_at-l.ensures);
  rising = (sofar_rising _ _ _ _ c.loop-i.invariant.0, sofar_reached _ _ _ _ c.loop-i.invariant.0);
  watched = c.loop-i.invariant.3;
  room = search rules;
  lines_bound = (omega (arith, c.loop-i.invariant.0.lines), omega (arith, c.loop-i.invariant.0.within));
}

pub overflow_add-k : goal.overflow_add-k
overflow_add-k c = omega (arith, c.loop-i.invariant.2, c.one_of-k.ensures.upper_bound, c.loop-i.invariant.0.within, c.before)

pub returns-in_err-c-clause-number_value : goal.returns-in_err-c-clause-number_value
unfolding refused_of
returns-in_err-c-clause-number_value c = handed_on c.from_residual.result c.in_err-c.field-0.0 c.from_residual.ensures.1 ∙ ap (λ (v : Verdict). v.number) (turn_refused _ _ _ _ c.loop-i.invariant.0 (omega arith) _ _ c.line_at-l.ensures (c.in_err-c.ensures.by_index _ _ c.loop-i.invariant.0.block c.loop-i.invariant.0.behind) (never_zero _) _ refl)

pub loop-i-preserved : goal.loop-i-preserved
loop-i-preserved c =
    let S = c.loop-i.invariant in
    let h : 81 * c.loop-i.i < length c.args.text.now = omega arith in
    let el = c.line_at-l.ensures in
    let n = c.in_ok-c.ensures.by_index _ _ S.0.block S.0.behind in
    let e = c.in_ok-c.ensures.state_value in (
      turn_next _ _ _ _ S.0 h _ _ el n refl _ (record { block = e.1; earlier = e.2 }) _ e.0,
      rw c.one_of-k.ensures.value (need_step _ _ _ _ _ h el S.1),
      omega (arith, S.2, c.one_of-k.ensures.upper_bound),
      turn_watched _ _ _ _ S.0 h _ _ el n refl _ c.in_ok-c.ensures.watched_2 _ e.1,
    )

pub returns : goal.returns
returns c = let S = c.loop-i.invariant in let h : length c.args.text.now ≤ 81 * c.loop-i.i = omega arith in record {
  number_value = c.in_ok-ended.ensures ∙ ap (λ (v : Verdict). v.number) (sofar_done _ _ _ _ _ S.0 h refl);
  need_value = need_done _ _ _ _ h S.1;
}

pub returns-in_err-ended-clause-number_value : goal.returns-in_err-ended-clause-number_value
returns-in_err-ended-clause-number_value c = handed_on c.from_residual-in_err-ended.result c.in_err-ended.field-0.0 c.from_residual-in_err-ended.ensures.1 ∙ (c.in_err-ended.ensures ∙ ap (λ (v : Verdict). v.number) (sofar_done _ _ _ _ _ c.loop-i.invariant.0 (omega arith) refl))
