use mathlib.Core.Path.{sym, ◌∙◌}
use native.Mathlib.Omega.{arith}
use Rattle.store.proofs.Standing.{none_start, none_next, none_done, none_large, none_yet, stands_yes, stands_no}
use Rattle.store.proofs.seeking.stands_in.Goals as goal

pub returns-then-x-gt-LAST_SERIAL : goal.returns-then-x-gt-LAST_SERIAL
returns-then-x-gt-LAST_SERIAL c = λ r. none_large _ _ _ r c.if-x-gt-LAST_SERIAL.true

pub returns-then-k-eq0 : goal.returns-then-k-eq0
returns-then-k-eq0 c = λ r. none_yet _ _ _ c.if-k-eq0.true

pub loop-m-init : goal.loop-m-init
loop-m-init c = λ r. none_start _ _ _ _ _ r c.if-k-eq0.false c.slot_at-first.ensures c.model_of-m.ensures.value

pub stands_in_model-e-requires : goal.stands_in_model-e-requires
stands_in_model-e-requires c = record {
  k_bound = c.requires;
  m_bound = (omega (arith, c.model_of-m-end.ensures.upper_bound, c.loop-m-test.true), omega (arith, c.if-x-gt-LAST_SERIAL.false));
}

pub returns-then-e : goal.returns-then-e
returns-then-e c = λ r. c.if-e.true ∙ sym (stands_yes _ _ _ _ _ (c.stands_in_model-e.ensures r) c.if-e.true)

pub loop-m-preserved : goal.loop-m-preserved
loop-m-preserved c = λ r. none_next c.args.table.now _ _ _ (c.loop-m.invariant r) (stands_no _ _ _ _ _ (c.stands_in_model-e.ensures r) c.if-e.false)

pub returns-else-k-eq0 : goal.returns-else-k-eq0
returns-else-k-eq0 c = λ r. none_done _ _ _ _ _ _ r c.if-k-eq0.false (c.loop-m.invariant r) c.slot_at-last.ensures c.model_of-m-end.ensures.value c.loop-m-test.false

pub returns-else-e : goal.returns-else-e
returns-else-e c = λ r. none_done _ _ _ _ _ _ r c.if-k-eq0.false (none_next c.args.table.now _ _ _ (c.loop-m.invariant r) (stands_no _ _ _ _ _ (c.stands_in_model-e.ensures r) c.if-e.false)) c.slot_at-last.ensures c.model_of-m-end.ensures.value (omega arith)
