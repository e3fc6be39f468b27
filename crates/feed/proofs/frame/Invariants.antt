use mathlib.Core.Path.{◌≡◌}
use lib.ListN.{drop}
use Rattle.feed.specs.Frame.{no_bounds, bounds_from}
use Rattle.feed.proofs.frame.Given as goal

abbrev pub invariant-loop-s : goal.invariant-loop-s
invariant-loop-s l = bounds_from l.b (drop l.s-index l.table) ≡ bounds_from no_bounds l.table
