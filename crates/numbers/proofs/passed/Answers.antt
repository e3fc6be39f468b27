use Rattle.numbers.proofs.Runs.{scan_small, scan_start, scan_next, scan_end}
use native.Mathlib.Omega.{arith}
use Rattle.numbers.proofs.passed.Goals as goal

pub loop-i-init : goal.loop-i-init
loop-i-init c = search (scan_start, arith)

pub step-s-requires : goal.step-s-requires
step-s-requires c = search (scan_small, arith)

pub loop-i-preserved : goal.loop-i-preserved
loop-i-preserved c = search (scan_next, arith)

pub returns : goal.returns
returns c = search (scan_end, arith)
