-- What a line's writer answers, and what then stands there, for every kind of line. Assumes nothing.
use mathlib.Core.Path.{◌≡◌, sym, ◌∙◌, ap}
use mathlib.Core.List.{List, ◌++◌}
use mathlib.Core.Bool.{Bool, true, false}
use Prim.Native.Nat.{ℕ, ◌≤◌, ◌<◌}
use native.Mathlib.Omega.{arith}
use lib.ListN.{length, take, drop, length-drop}
use lib.Seq.{take_all, length-take-le}
use borrow.Author.Tests.{lt-ltb, le-ltb}
use Rattle.columns.specs.Columns.{Put}
use Rattle.fields.specs.Format.{write_number, write_line}

module _ (good : Bool) (x l : List ℕ) where
  pub bad_number : good ≡ false → 6 ≡ write_number good l
  unfolding write_number
  bad_number f = rw f

  pub bad_line : good ≡ false → l ≡ write_line good x l
  unfolding write_line
  bad_line f = rw f

  pub short_number : good ≡ true → length l < 80 → 17 ≡ write_number good l
  unfolding write_number
  short_number t h = rw (t, lt-ltb _ _ h)

  pub short_line : good ≡ true → length l < 80 → l ≡ write_line good x l
  unfolding write_line
  short_line t h = rw (t, lt-ltb _ _ h)

  pub done_number : good ≡ true → 80 ≤ length l → 0 ≡ write_number good l
  unfolding write_number
  done_number t h = rw (t, le-ltb _ _ h)

  -- a line that is written over the first 80 bytes
  pub done_line : (a b : List ℕ) → good ≡ true → 80 ≤ length l → a ≡ take 80 l → Put a 0 80 x b → b ++ drop 80 l ≡ write_line good x l
  unfolding write_line
  done_line a b t h e p =
      let n : length a ≡ 80 = ap length e ∙ length-take-le 80 l h in
      let k : length b ≤ 80 = omega (arith, length-drop 80 b, length-drop 80 a, ap length p.rest) in
      rw (t, le-ltb _ _ h) (ap (λ (y : List ℕ). y ++ drop 80 l) (sym (take_all 80 b k) ∙ p.front))
