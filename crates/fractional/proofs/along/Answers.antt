use mathlib.Core.Path.{refl}
use native.Mathlib.Omega.{arith}
use Rattle.fractional.proofs.Whole.{row_small, row_is}
use Rattle.fractional.proofs.along.Goals as goal

pub sum_of-requires : goal.sum_of-requires
sum_of-requires c = row_small c.args.r c.args.p (search) (search) (search) (search) (search) (search) (search) c.requires _ _ _ _ c.times-x.ensures c.times-y.ensures c.times-z.ensures _ (omega arith) c.times-shift.ensures

pub returns : goal.returns
returns c = row_is c.args.r c.args.p (search) (search) (search) (search) (search) (search) (search) c.requires _ _ _ _ c.times-x.ensures c.times-y.ensures c.times-z.ensures _ (omega arith) c.times-shift.ensures refl _ c.sum_of.ensures
