use native.Mathlib.Omega.{arith}
use Rattle.numbers.proofs.Runs.{scan_below, num_absent, num_whole, num_long, num_real}
use Rattle.numbers.proofs.read_number.Goals as goal

pub returns-then-n-e : goal.returns-then-n-e
returns-then-n-e c = search num_absent

pub returns-then-n-gt9 : goal.returns-then-n-gt9
returns-then-n-gt9 c = search num_long

pub returns-then-e-eq0 : goal.returns-then-e-eq0
returns-then-e-eq0 c = search num_whole

pub tail-h-requires : goal.tail-h-requires
tail-h-requires c = search (scan_below, arith)

pub returns : goal.returns
returns c = search num_real
