-- A line that stays is counted, and one that goes is not.
-- Assumes nothing.
use Prim.Native.Nat.{ℕ}
use mathlib.Core.Bool.{Bool, true, false}
use mathlib.Core.Path.{◌≡◌}
use Rattle.kinds.specs.declared.Kind.{Kind}
use Rattle.pieces.specs.declared.Line.{Line}
use Rattle.places.specs.declared.Counts.{Counts}
use Rattle.places.specs.Counts.{count_at, raised}
use Rattle.facets.specs.Facets.{line_kind}
use Rattle.table.specs.Deal.{counted}

pub stays_counted : (stay past : Bool) (q r : Counts) (l : Line) (k : Kind) (n : ℕ) → stay ≡ true → k ≡ line_kind l → n ≡ count_at past k → r ≡ raised q n → r ≡ counted stay past q l
unfolding counted
stays_counted stay past q r l k n e p1 p2 p3 = rw (e, p3, p2, p1)

pub goes_uncounted : (stay past : Bool) (q : Counts) (l : Line) → stay ≡ false → q ≡ counted stay past q l
unfolding counted
goes_uncounted stay past q l e = rw e
