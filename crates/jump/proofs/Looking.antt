-- The hits of a text from line i on: what one line more gives, and that there is none in a rest of less than 81 bytes.
-- Assumes nothing.
use Prim.Native.Nat.{ℕ, ◌+◌, ◌*◌, ◌/◌, ◌≤◌, ◌<◌}
use mathlib.Core.List.{List, [], ◌∷◌}
use mathlib.Core.Bool.{Bool, true, false}
use mathlib.Core.Path.{◌≡◌, refl, ◌∙◌, ap}
use native.Mathlib.Omega.{arith}
use borrow.Author.Tests.{ltb-true, ltb-false}
use borrow.Author.Count.{below_more}
use lib.Dec.{ltb}
use lib.ListN.{length, drop, length-take, length-drop}
use Rattle.ascii.specs.Tests.{pick}
use Rattle.rows.specs.Text.{cut, piece_at}
use Rattle.rows.proofs.Cut.{cut_next, cut_done}
use Rattle.jump.specs.Jumping.{is_hit, hits_from, hits, jump_of}
use Rattle.jump.proofs.Hits.{short_misses}

-- the hits from line i on, which has number i + 1
abbrev pub hits_on : ℕ → List ℕ → ℕ → List ℕ
hits_on x t i = hits_from x (i + 1) (cut (drop (81 * i) t))

hits_next : (x : ℕ) (t : List ℕ) (i : ℕ) → 81 * i < length t
    → hits_on x t i ≡ pick (is_hit x (piece_at t i)) ((i + 1) ∷ hits_on x t (i + 1)) (hits_on x t (i + 1))
unfolding hits_from
hits_next x t i h = ap (hits_from x (i + 1)) (cut_next t i h)

-- no line before line i is a hit
pub record Looked (x : ℕ) (t : List ℕ) (i : ℕ) : Type 0 where
  pub rest : hits x t ≡ hits_on x t i
  pub above : (j : ℕ) → j < i → is_hit x (piece_at t j) ≡ false

pub looked_start : (x : ℕ) (t : List ℕ) → Looked x t 0
unfolding hits
looked_start x t = record { rest = refl; above = λ j h. absurd (omega arith) }

pub looked_next : (x : ℕ) (t : List ℕ) (i : ℕ) → Looked x t i → 81 * i < length t → is_hit x (piece_at t i) ≡ false → Looked x t (i + 1)
looked_next x t i L h m =
    record {
      rest = L.rest ∙ hits_next x t i h ∙ rw m;
      above = below_more (λ (j : ℕ). is_hit x (piece_at t j) ≡ false) i L.above m;
    }

-- at a hit the answer is its number
pub looked_hit : (x : ℕ) (t : List ℕ) (i : ℕ) → Looked x t i → 81 * i < length t → is_hit x (piece_at t i) ≡ true
    → jump_of x t ≡ record { line = i + 1; looked = i + 1 }
unfolding jump_of
looked_hit x t i L h m = let e : hits x t ≡ (i + 1) ∷ hits_on x t (i + 1) = L.rest ∙ hits_next x t i h ∙ rw m in rw e

-- past the text nothing is a hit, nor in a rest of less than 81 bytes
pub past_misses : (x : ℕ) (t : List ℕ) (i : ℕ) → length t < 81 * i + 81 → is_hit x (piece_at t i) ≡ false
unfolding piece_at
past_misses x t i h = short_misses x (piece_at t i) (λ e. omega (arith, simp (length-take, length-drop) at e))

over : (x : ℕ) (t : List ℕ) (i : ℕ) → length t ≤ 81 * i → hits_on x t i ≡ []
unfolding hits_from
over x t i h = ap (hits_from x (i + 1)) (cut_done t i h)

rest_over : (x : ℕ) (t : List ℕ) (i : ℕ) → length t < 81 * i + 81 → hits_on x t i ≡ []
rest_over x t i h = go (ltb (81 * i) (length t)) refl
  where
    go : (b : Bool) → ltb (81 * i) (length t) ≡ b → hits_on x t i ≡ []
    go true u = hits_next x t i (ltb-true _ _ u) ∙ rw (past_misses x t i h) (over x t (i + 1) (omega arith))
    go false u = over x t i (ltb-false (81 * i) (length t) u)

pub looked_over : (x : ℕ) (t : List ℕ) (i : ℕ) → Looked x t i → length t < 81 * i + 81 → jump_of x t ≡ record { line = 0; looked = length t / 81 }
unfolding jump_of
looked_over x t i L h = let e : hits x t ≡ [] = L.rest ∙ rest_over x t i h in rw e
