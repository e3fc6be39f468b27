use Rattle.table.specs.Deal.{output_of}
use lib.ListN.{length}
use native.Mathlib.Omega.{arith}
use mathlib.Core.Path.{◌≡◌, refl, sym, ◌∙◌}
use Rattle.table.proofs.Ready.{ready}
use Rattle.store.proofs.Answers.{never_zero, told_on, put_bad, put_short, put_good, kept_few, size_dealt}
use Rattle.store.proofs.deal.Goals as goal

pub size_of-n-requires : goal.size_of-n-requires
size_of-n-requires c = record {
  kept_le_lines = kept_few _ _ _ c.in_ok-h.ensures.belongs (ready _ _ (sym c.in_ok-h.ensures.number_value)).good;
  lines_bound = omega (arith, c.in_ok-h.ensures.belongs.lines);
}

pub returns-then-out-n : goal.returns-then-out-n
returns-then-out-n c = put_short _ _ _ _ _ c.in_ok-h.ensures.number_value refl _ (c.size_of-n.ensures ∙ size_dealt _ _ _ c.in_ok-h.ensures.belongs (ready _ _ (sym c.in_ok-h.ensures.number_value)).good _) c.if-out-n.true

pub write_all-requires : goal.write_all-requires
write_all-requires c = let e : c.size_of-n.result ≡ length (output_of c.args.saving c.args.text.now c.args.table.now) = c.size_of-n.ensures ∙ size_dealt _ _ _ c.in_ok-h.ensures.belongs (ready _ _ (sym c.in_ok-h.ensures.number_value)).good c.args.saving in record {
  dealable = record { good = (ready _ _ (sym c.in_ok-h.ensures.number_value)).good; rises = rw c.in_ok-h.ensures.belongs.need at c.in_ok-h.ensures.belongs.rises };
  table_in_bounds = omega (arith, e, c.if-out-n.false);
}

pub returns : goal.returns
returns c = put_good _ _ _ _ _ c.in_ok-h.ensures.number_value refl _ (c.size_of-n.ensures ∙ size_dealt _ _ _ c.in_ok-h.ensures.belongs (ready _ _ (sym c.in_ok-h.ensures.number_value)).good _) c.if-out-n.false _ c.write_all.ensures

pub returns-in_err-h : goal.returns-in_err-h
returns-in_err-h c = told_on c.from_residual.result c.in_err-h.field-0.0 _ c.from_residual.ensures.1 ∙ put_bad _ _ _ _ _ c.in_err-h.ensures.number_value (never_zero _)
