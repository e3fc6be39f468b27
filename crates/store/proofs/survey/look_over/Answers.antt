use Rattle.gate.specs.Gate.{refused_of}
use Rattle.gate.specs.Gate.{Verdict}
use native.Mathlib.Omega.{arith}
use mathlib.Core.Path.{refl, ap, ◌∙◌}
use Rattle.gate.proofs.Sofar.{sofar_start, sofar_rising, sofar_reached, sofar_done, turn_refused, turn_next, turn_watched, watched_on}
use Rattle.store.proofs.Lines.{row_small, need_done, fits_done, kept_done, fences_done}
use Rattle.ascii.proofs.Bools.{and_both}
use Rattle.store.proofs.Looking.{seen_start, seen_onward, seen_next}
use borrow.Author.Rules.{rules}
use lib.ListN.{length}
use Prim.Native.Nat.{◌*◌, ◌<◌, ◌≤◌}
use Rattle.store.proofs.Answers.{never_zero}
use Rattle.refusals.proofs.Passed.{handed_on}
use Rattle.store.proofs.survey.look_over.Goals as goal

pub loop-i-init : goal.loop-i-init
loop-i-init c = (seen_start _ _ _ _ (sofar_start _ _ _ c.start-c.ensures.state_value.0 c.start-c.ensures.state_value.1 c.start-c.ensures.state_value.2) c.start-c.ensures.state_value.0, watched_on _ _ _ _ c.start-c.ensures.state_value.1 (c.start-c.ensures.by_index _))

pub line_at-l-requires : goal.line_at-l-requires
line_at-l-requires c = omega arith

pub turn-requires : goal.turn-requires
turn-requires c = record {
  i_in_bounds = (omega arith, c.line_at-l.ensures);
  rising = (sofar_rising _ _ _ _ c.loop-i.invariant.0.sofar, sofar_reached _ _ _ _ c.loop-i.invariant.0.sofar);
  watched = c.loop-i.invariant.1;
  room = search rules;
  lines_bound = (omega (arith, c.loop-i.invariant.0.sofar.lines), omega (arith, c.loop-i.invariant.0.sofar.within));
}

pub fits-fits-requires : goal.fits-fits-requires
fits-fits-requires c = row_small _ _ _ c.line_at-l.ensures

pub stays_if-stay-requires : goal.stays_if-stay-requires
stays_if-stay-requires c = record {
  k_bound = omega (arith, c.loop-i.invariant.0.few.2, c.loop-i.invariant.0.sofar.within, c.before);
  here_value = c.slot_at-here.ensures;
}

pub overflow_add-kept : goal.overflow_add-kept
overflow_add-kept c = omega (arith, c.loop-i.invariant.0.few.0, c.one_if-kept.ensures.upper_bound, c.loop-i.invariant.0.sofar.within, c.before)

pub overflow_add-fences : goal.overflow_add-fences
overflow_add-fences c = omega (arith, c.loop-i.invariant.0.few.1, c.one_if-fences.ensures.upper_bound, c.loop-i.invariant.0.sofar.within, c.before)

pub overflow_add-k : goal.overflow_add-k
overflow_add-k c = omega (arith, c.loop-i.invariant.0.few.2, c.one_of-k.ensures.upper_bound, c.loop-i.invariant.0.sofar.within, c.before)

pub returns-in_err-c-clause-number_value : goal.returns-in_err-c-clause-number_value
unfolding refused_of
returns-in_err-c-clause-number_value c = handed_on c.from_residual.result c.in_err-c.field-0.0 c.from_residual.ensures.1 ∙ ap (λ (v : Verdict). v.number) (turn_refused _ _ _ _ c.loop-i.invariant.0.sofar (omega arith) _ _ c.line_at-l.ensures (c.in_err-c.ensures.by_index _ _ c.loop-i.invariant.0.sofar.block c.loop-i.invariant.0.sofar.behind) (never_zero _) _ refl)

pub loop-i-preserved : goal.loop-i-preserved
loop-i-preserved c =
    let S = c.loop-i.invariant.0 in
    let h : 81 * c.loop-i.i < length c.args.text.now = omega arith in
    let el = c.line_at-l.ensures in
    let n = c.in_ok-c.ensures.by_index _ _ S.sofar.block S.sofar.behind in
    let e = c.in_ok-c.ensures.state_value in
    let fit = and_both c.loop-i.fits c.fits-fits.result in (
      rw (fit, c.one_if-kept.ensures.value, c.one_if-fences.ensures.value, c.one_of-k.ensures.value) (seen_next _ _ _ _ _ _ _ _ _ _ S h _ el _ _ (turn_next _ _ _ _ S.sofar h _ _ el n refl _ (record { block = e.1; earlier = e.2 }) _ e.0) (seen_onward _ _ _ _ _ _ _ _ _ _ S _ el _ n refl _ e.0) _ c.slot_at-here.ensures _ c.fits-fits.ensures _ (λ g r. c.stays_if-stay.ensures (fit ∙ g) r) _ c.is_fence.ensures _ c.model_next-model.ensures),
      turn_watched _ _ _ _ S.sofar h _ _ el n refl _ c.in_ok-c.ensures.watched_2 _ e.1,
    )

pub returns : goal.returns
returns c = let S = c.loop-i.invariant.0 in let h : length c.args.text.now ≤ 81 * c.loop-i.i = omega arith in record {
  number_value = c.in_ok-ended.ensures ∙ ap (λ (v : Verdict). v.number) (sofar_done _ _ _ _ _ S.sofar h refl);
  surveyed = record { need = need_done _ _ _ _ h S.need; fits = fits_done _ _ _ _ _ _ _ h S.fitted; lines = omega (arith, S.sofar.within, h); fences = fences_done _ _ _ _ h S.fences; few = omega (arith, S.few.1); kept = λ e g. kept_done _ _ _ _ _ _ h (S.kept e g); rises = λ e g. S.rises e g };
}

pub returns-in_err-ended-clause-number_value : goal.returns-in_err-ended-clause-number_value
returns-in_err-ended-clause-number_value c = handed_on c.from_residual-in_err-ended.result c.in_err-ended.field-0.0 c.from_residual-in_err-ended.ensures.1 ∙ (c.in_err-ended.ensures ∙ ap (λ (v : Verdict). v.number) (sofar_done _ _ _ _ _ c.loop-i.invariant.0.sofar (omega arith) refl))
