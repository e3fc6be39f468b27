use mathlib.Core.Path.{sym, ◌∙◌}
use native.Mathlib.Omega.{arith}
use Rattle.ascii.proofs.Bools.{and_both}
use Rattle.store.proofs.Standing.{small_parts, rank_small, rank_none}
use Rattle.store.proofs.seeking.rank_of.Goals as goal

pub overflow_mul-result : goal.overflow_mul-result
overflow_mul-result c = omega (arith, (small_parts c.args.s (sym (and_both _ _) ∙ c.if-s.true)).0)

pub overflow_add-result : goal.overflow_add-result
overflow_add-result c = let h = small_parts c.args.s (sym (and_both _ _) ∙ c.if-s.true) in
    omega (arith, h.0, h.1)

pub returns-then-s : goal.returns-then-s
returns-then-s c = sym (rank_small _ (sym (and_both _ _) ∙ c.if-s.true))

pub returns : goal.returns
returns c = sym (rank_none _ (sym (and_both _ _) ∙ c.if-s.false))
