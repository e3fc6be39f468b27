use Rattle.numbers.proofs.Runs.{tail_small, tail_start, tail_next, tail_end}
use native.Mathlib.Omega.{arith}
use Rattle.numbers.proofs.tail.Goals as goal

pub loop-i-init : goal.loop-i-init
loop-i-init c = search (tail_start, arith)

pub taken-t-requires : goal.taken-t-requires
taken-t-requires c = search (tail_small, arith)

pub loop-i-preserved : goal.loop-i-preserved
loop-i-preserved c = search (tail_next, arith)

pub returns : goal.returns
returns c = search (tail_end, arith)
