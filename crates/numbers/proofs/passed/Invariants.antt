use mathlib.Core.Path.{◌≡◌}
use Rattle.numbers.specs.Runs.{scan_of}
use Rattle.numbers.proofs.passed.Given as goal

abbrev pub invariant-loop-i : goal.invariant-loop-i
invariant-loop-i l = l.s ≡ scan_of l.line l.at l.i
