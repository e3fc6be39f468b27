-- What the answer of the jump means, in any text and in an accepted one: the statement. It is proved in proofs/.
use Rattle.std.specs.Prelude.{◌+◌, ◌/◌, ◌<◌, ◌≡◌}
use Rattle.ascii.specs.Library.{ℕ, List, true, false, length}
use Rattle.facets.specs.Facets.{is_fence}
use Rattle.rows.specs.Text.{piece_at, row}
use Rattle.serials.specs.Known.{is_site}
use Rattle.gate.specs.Gate.{check_of}
use Rattle.jump.specs.Jumping.{is_hit, jump_of}

pub record Jumps (x : ℕ) (t : List ℕ) : Type 0 where
  -- the line answered has the serial, no line above it has, and so many lines were looked at
  pub found : (i : ℕ) → (jump_of x t).line ≡ i + 1
      → (is_hit x (piece_at t i) ≡ true) × ((j : ℕ) → j < i → is_hit x (piece_at t j) ≡ false) × ((jump_of x t).looked ≡ i + 1)
  -- where 0 is answered no line has it, and every line of 81 bytes was looked at
  pub nowhere : (jump_of x t).line ≡ 0 → ((i : ℕ) → is_hit x (piece_at t i) ≡ false) × ((jump_of x t).looked ≡ length t / 81)
  -- such a line is what the rules between lines take for the ATOM or HETATM line with that serial
  pub site : (i : ℕ) → is_hit x (piece_at t i) ≡ is_site x (row t i)
  -- in an accepted text without MODEL and ENDMDL lines a line with the serial is the one answered, so there is no other
  pub only : (check_of t).number ≡ 0 → ((k : ℕ) → is_fence (row t k) ≡ false) → (i : ℕ) → is_hit x (piece_at t i) ≡ true
      → (jump_of x t).line ≡ i + 1
