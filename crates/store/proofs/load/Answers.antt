use native.Mathlib.Omega.{arith}
use Rattle.store.proofs.Lines.{row_small}
use Rattle.store.proofs.Filling.{filled_start, filled_next, filled_done, filled_more}
use Rattle.store.proofs.Answers.{never_zero, told_on, load_bad, load_short, load_good}
use mathlib.Core.Path.{refl, ◌∙◌}
use Rattle.store.proofs.load.Goals as goal

pub returns-then-table-n : goal.returns-then-table-n
returns-then-table-n c = load_short _ _ _ c.in_ok-n.ensures.number_value refl _ c.in_ok-n.ensures.need_value c.if-table-n.true

pub loop-i-init : goal.loop-i-init
loop-i-init c = filled_start _ _ _ c.in_ok-n.ensures.need_value c.if-table-n.false

pub put_slot-k-requires : goal.put_slot-k-requires
put_slot-k-requires c = record {
  l_in_bounds = omega (arith, filled_more _ _ _ _ _ _ _ c.loop-i.invariant _ (omega arith) c.line_at-l.ensures, c.loop-i.invariant.size, c.loop-i.invariant.fits);
  small_spot = row_small _ _ _ c.line_at-l.ensures;
}

pub loop-i-preserved : goal.loop-i-preserved
loop-i-preserved c = rw (c.put_slot-k.ensures.value, c.model_next-model.ensures) (filled_next _ _ _ _ _ _ _ c.loop-i.invariant _ _ (omega arith) c.line_at-l.ensures c.put_slot-k.ensures.table_after)

pub shape_of-table : goal.shape_of-table
shape_of-table c = c.loop-i.invariant.size

pub returns : goal.returns
returns c = load_good _ _ _ c.in_ok-n.ensures.number_value refl _ c.in_ok-n.ensures.need_value _ c.if-table-n.false (filled_done _ _ _ _ _ _ _ c.loop-i.invariant (omega arith))

pub returns-in_err-n : goal.returns-in_err-n
returns-in_err-n c = told_on c.from_residual.result c.in_err-n.field-0.0 _ c.from_residual.ensures.1 ∙ load_bad _ _ _ c.in_err-n.ensures.number_value (never_zero _)
