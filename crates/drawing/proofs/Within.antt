-- The good lines of a text lie within it.
-- Assumes nothing.
use Prim.Native.Nat.{ℕ, ◌*◌, ◌≤◌}
use mathlib.Core.List.{List}
use mathlib.Core.Path.{◌≡◌}
use lib.ListN.{length}
use Rattle.gate.specs.Gate.{Verdict}
use Rattle.gate.specs.Gate.{check_of}
use Rattle.gate.proofs.Runs.{answered, reached}

pub good_within : (t : List ℕ) (v : Verdict) → v ≡ check_of t → 81 * v.good ≤ length t
good_within t v e = rw e (reached t (check_of t).good (answered t).good_to).within
