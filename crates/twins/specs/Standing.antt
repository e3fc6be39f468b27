-- What a look through some lines for an atom says. (Nothing here is part of an answer.)
use Rattle.std.specs.Prelude.{◌≤◌, ◌<◌, ◌≡◌}
use Rattle.ascii.specs.Library.{ℕ, Bool, true, false}
use Rattle.coordinate.specs.declared.{Identity.Identity}
use Rattle.pieces.specs.declared.{Line.Line}
use Rattle.twins.specs.Twins.{is_twin}

-- a line from lo up to hi is the atom a, or none of them is
abbrev pub Stands : Identity → (ℕ → Line) → ℕ → ℕ → Bool → Type 0
Stands a L lo hi true = (j : ℕ) × (lo ≤ j) × (j < hi) × (is_twin a (L j) ≡ true)
Stands a L lo hi false = (j : ℕ) → lo ≤ j → j < hi → is_twin a (L j) ≡ false
