-- What a look at the lines to come says. (Nothing here is part of an answer.)
use Rattle.std.specs.Prelude.{◌≤◌, ◌<◌, ◌≡◌}
use Rattle.ascii.specs.Library.{ℕ, List}
use Rattle.keys.specs.Keys.{home_at, body_at}
use Rattle.ahead.specs.declared.{Ahead.Ahead}

-- no line from a up to b has the columns of a line from b up to c
abbrev pub Clear : List ℕ → Ahead → Type 0
Clear t v = (j p : ℕ) → v.a ≤ j → j < v.b → v.b ≤ p → p < v.c → home_at t j ≡ home_at t p → body_at t j ≡ body_at t p → ⊥
