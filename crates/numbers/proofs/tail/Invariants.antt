use mathlib.Core.Path.{◌≡◌}
use Rattle.numbers.specs.Runs.{decimals_of}
use Rattle.numbers.proofs.tail.Given as goal

abbrev pub invariant-loop-i : goal.invariant-loop-i
invariant-loop-i l = l.t ≡ decimals_of l.line l.at l.initial.t l.i
