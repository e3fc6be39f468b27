use Rattle.serials.specs.Known.{is_site}
use Rattle.rows.specs.Text.{row}
use mathlib.Core.Bool.{false}
use mathlib.Core.Path.{◌≡◌}
use Prim.Native.Nat.{ℕ, ◌≤◌, ◌<◌}
use Rattle.serials.proofs.stands.Given as goal

abbrev pub invariant-loop-j : goal.invariant-loop-j
invariant-loop-j l = (i : ℕ) → l.lo ≤ i → i < l.j → is_site l.x.0 (row l.text i) ≡ false
