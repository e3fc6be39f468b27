-- A search among serials that rise. (Nothing here is part of an answer.)
use Rattle.std.specs.Prelude.{◌+◌, ◌≤◌, ◌<◌}
use Rattle.ascii.specs.Library.{ℕ, ltb, eqb, pick}
use Rattle.search.specs.declared.{Span.Span}

abbrev pub span : ℕ → ℕ → Span
span lo hi = record { lo = lo; hi = hi }

-- a span with place n taken in; an empty one begins there
abbrev pub including : Span → ℕ → Span
including s n = span (pick (ltb s.lo s.hi) s.lo n) (n + 1)

-- what is left to search for x once `there` was seen at place m
unfoldable pub part_of : Span → ℕ → ℕ → ℕ → Span
part_of s m there x = pick (ltb there x) (span (m + 1) s.hi) (pick (eqb there x) (span m m) (span s.lo m))

-- the numbers S from lo to hi rise
abbrev pub Rises : (ℕ → ℕ) → ℕ → ℕ → Type 0
Rises S lo hi = (j k : ℕ) → lo ≤ j → j < k → k < hi → S j < S k

-- the numbers S below a are less than x, and those from z on are not
pub record Bracket (S : ℕ → ℕ) (lo hi x a z : ℕ) : Type 0 where
  pub lo_a : lo ≤ a
  pub a_z : a ≤ z
  pub z_hi : z ≤ hi
  pub below : (j : ℕ) → lo ≤ j → j < a → S j < x
  pub above : (j : ℕ) → z ≤ j → j < hi → x ≤ S j
