use mathlib.Core.Path.{◌≡◌}
use Rattle.columns.specs.Columns.{clean_at}
use Rattle.columns.proofs.is_clean.Given as goal

abbrev pub invariant-loop-i : goal.invariant-loop-i
invariant-loop-i l = l.ok ≡ clean_at l.line l.at l.i
