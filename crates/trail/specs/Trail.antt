-- What is known of the coordinate lines so far. (Nothing here is part of an answer.)
use Rattle.std.specs.Prelude.{◌+◌, ◌≤◌, ◌<◌, ◌≡◌, ◌⊎◌}
use Rattle.ascii.specs.Library.{ℕ, List, ltb, pick}
use Rattle.rows.specs.Text.{piece_at}
use Rattle.keys.specs.Keys.{home_of, body_of, home_at, body_at}
use Rattle.ahead.specs.Ahead.{Clear}
use Rattle.search.specs.declared.{Span.Span}
use Rattle.search.specs.Search.{span}
use Rattle.trail.specs.declared.{Watch.Watch}

-- no line from lo up to start has the columns of the piece p that name an atom
abbrev pub Unlike : List ℕ → ℕ → ℕ → List ℕ → Type 0
Unlike t lo start p = (j : ℕ) → lo ≤ j → j < start → home_at t j ≡ home_of p → body_at t j ≡ body_of p → ⊥

-- of line i
abbrev pub Apart : List ℕ → ℕ → ℕ → ℕ → Type 0
Apart t lo start i = Unlike t lo start (piece_at t i)

-- the numbers W from lo up to hi do not fall
abbrev pub Climbs : (ℕ → ℕ) → ℕ → ℕ → Type 0
Climbs W lo hi = (j k : ℕ) → lo ≤ j → j ≤ k → k < hi → W j ≤ W k

-- where among the numbers W from lo up to hi the number key may stand, and which numbers around it are none of them
pub record Seen (W : ℕ → ℕ) (lo hi from low key limit : ℕ) : Type 0 where
  pub from_lo : lo ≤ from
  pub from_hi : from ≤ hi
  -- none before `from` is the key
  pub clear : (j : ℕ) → lo ≤ j → j < from → W j ≡ key → ⊥
  pub low_key : low ≤ key
  pub key_limit : key ≤ limit
  -- none lies between low and the key, or between the key and limit
  pub gap : (j : ℕ) → lo ≤ j → j < hi → (W j ≤ low) ⊎ ((W j ≡ key) ⊎ (limit ≤ W j))

-- the numbers W from lo up to hi do not fall before top, and none there is above the highest
pub record Run (W : ℕ → ℕ) (lo hi top highest : ℕ) : Type 0 where
  pub top_lo : lo ≤ top
  pub top_hi : top ≤ hi
  pub rises : Climbs W lo top
  pub peak : (j : ℕ) → lo ≤ j → j < top → W j ≤ highest

-- what is known of the lines of the block b: by their residues, and of lines to come
pub record Watched (t : List ℕ) (b : Span) (w : Watch) : Type 0 where
  pub seen : Seen (home_at t) b.lo b.hi w.from w.low w.key w.limit
  pub run : Run (home_at t) b.lo b.hi w.top w.peak
  pub ahead : Clear t w.ahead

-- the half of a span that is left to search for the first number that is no less than x, once w was seen at place m
abbrev pub half_of : Span → ℕ → ℕ → ℕ → Span
half_of s m w x = pick (ltb w x) (span (m + 1) s.hi) (span s.lo m)
