use Rattle.std.specs.Prelude.{◌≡◌}
use Rattle.columns.specs.Columns.{gap_of}
use Rattle.columns.proofs.gap.Given as goal

abbrev pub invariant-loop-i : goal.invariant-loop-i
invariant-loop-i l = gap_of l.line l.at l.i ≡ 0
