-- What a line gives: MASTER recounted, the line as it was read, or nothing; and how long that is.
-- Assumes nothing.
use Prim.Native.Nat.{ℕ, ◌+◌, ◌≤◌}
use mathlib.Core.List.{List, [], ◌++◌, append-nil}
use mathlib.Core.Bool.{Bool, true, false}
use mathlib.Core.Path.{◌≡◌, refl, sym, ◌∙◌, ap, ap₂}
use native.Mathlib.Nat.{add-zero}
use native.Mathlib.Omega.{arith}
use lib.ListN.{length, take, drop, take-append-drop}
use Rattle.ascii.specs.Tests.{either, alike}
use Rattle.facets.specs.Facets.{is_fence}
use Rattle.columns.specs.Columns.{Put}
use Rattle.pieces.specs.declared.Line.{Line}
use Rattle.pieces.specs.Pieces.{line_of}
use Rattle.places.specs.declared.Counts.{Counts}
use Rattle.table.specs.Deal.{master_piece, is_master, written, share}

module _ (saving stay : Bool) (q : Counts) (p : List ℕ) (l : Line) (due : Bool) (d : due ≡ either (is_fence l) (alike saving stay)) (r : l ≡ line_of p) where
  module _ (e : due ≡ true) (master : Bool) (m : master ≡ is_master l) where
    pub gives_master : master ≡ true → share saving stay q p ≡ master_piece q
    unfolding share written
    gives_master f = rw (← r, sym d ∙ e, sym m ∙ f)

    pub gives_line : master ≡ false → share saving stay q p ≡ p
    unfolding share written
    gives_line f = rw (← r, sym d ∙ e, sym m ∙ f)

  pub gives_none : due ≡ false → share saving stay q p ≡ []
  unfolding share
  gives_none e = rw (← r, sym d ∙ e)

-- there is room for the 81 bytes that the line gives
pub room : (s x : List ℕ) (at n : ℕ) → s ≡ x → length x ≡ 81 → at + length s ≤ n → at + 81 ≤ n
room s x at n e k h = omega (arith, ap length e ∙ k)

-- they stand in their place, and the rest is as it was
pub placed : (s x l l1 : List ℕ) (at : ℕ) → s ≡ x → length x ≡ 81 → Put l at 81 x l1 → (at + 81 ≡ at + length s) × (l1 ≡ take at l ++ s ++ drop (at + length s) l)
placed s x l l1 at e k p =
    let n : length s ≡ 81 = ap length e ∙ k in
    rw n (refl, sym (take-append-drop (at + 81) l1) ∙ ap₂ ◌++◌ (p.front ∙ ap (λ (y : List ℕ). take at l ++ y) (sym e)) p.rest)

pub untouched : (s l : List ℕ) (at : ℕ) → s ≡ [] → (at ≡ at + length s) × (l ≡ take at l ++ s ++ drop (at + length s) l)
untouched s l at e = rw (e, add-zero, append-nil) (refl, sym (take-append-drop at l))
