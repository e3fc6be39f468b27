use native.Mathlib.Omega.{arith}
use Rattle.columns.proofs.Loops.{clean_start, clean_next, clean_end}
use Rattle.columns.proofs.is_clean.Goals as goal

pub loop-i-init : goal.loop-i-init
loop-i-init c = search (clean_start, arith)

pub loop-i-preserved : goal.loop-i-preserved
loop-i-preserved c = clean_next _ _ _ _ _ c.loop-i.invariant c.within-ok.ensures

pub returns : goal.returns
returns c = search (clean_end, arith)
