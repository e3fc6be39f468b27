-- One law for each `return` of the writers of numbers.
-- Assumes nothing.
use mathlib.Core.Path.{◌≡◌, refl, ap}
use mathlib.Core.List.{List, [], ◌∷◌, ◌++◌}
use mathlib.Core.Bool.{Bool, true, false}
use Prim.Native.Nat.{ℕ, zero, suc, ◌+◌, ◌-◌, ◌/◌, ◌≤◌, ◌<◌}
use native.Mathlib.Omega.{arith}
use lib.ListN.{length, set}
use borrow.Author.Tests.{lt-ltb, le-ltb}
use Rattle.columns.specs.Columns.{Put, blanks}
use Rattle.columns.proofs.Puts.{none_put, put_snoc}
use Rattle.numbers.specs.Number.{leader, digit_of, render}
use Rattle.numbers.proofs.Steps.{down}

module _ (l : List ℕ) (at n : ℕ) where
  pub leader_none : (m : Bool) → n ≡ 0 → Put l at n (leader n m) l
  unfolding leader
  leader_none m z = rw z (none_put l at)

  pub render_none : (e : ℕ) (m : Bool) (v : ℕ) → n ≡ 0 → Put l at n (render n e m v) l
  unfolding render
  render_none e m v z = rw z (none_put l at)

  module _ (l1 l2 : List ℕ) (z : n ≡ 0 → ⊥) (h : at + n ≤ length l) (k : length l1 ≡ length l) where
    -- the same at n, as the code has it
    snoc : (x : ℕ → List ℕ) (y : List ℕ) (c : ℕ) → x (suc (n - 1)) ≡ y ++ (c ∷ []) → Put l at (n - 1) y l1 → l2 ≡ set l1 (at + (n - 1)) c → Put l at n (x n) l2
    snoc x y c q p e =
        let g : at + suc (n - 1) ≤ length l = omega arith in
        rw (down n z) (rw q (put_snoc l l1 l2 at (n - 1) y c g k p e))

    pub leader_minus : (m : Bool) → m ≡ true → Put l at (n - 1) (blanks (n - 1)) l1 → l2 ≡ set l1 (at + (n - 1)) 45 → Put l at n (leader n m) l2
    unfolding leader
    leader_minus m t = snoc (λ i. leader i m) (blanks (n - 1)) 45 (rw t)

    pub leader_blank : (m : Bool) → m ≡ false → Put l at (n - 1) (blanks (n - 1)) l1 → l2 ≡ set l1 (at + (n - 1)) 32 → Put l at n (leader n m) l2
    unfolding leader
    leader_blank m t = snoc (λ i. leader i m) (blanks (n - 1)) 32 (rw t)

    module _ (e : ℕ) (m : Bool) (v : ℕ) where
      pub render_point : e ≡ 1 → Put l at (n - 1) (render (n - 1) 0 m v) l1 → l2 ≡ set l1 (at + (n - 1)) 46 → Put l at n (render n e m v) l2
      unfolding render
      render_point o = snoc (λ i. render i e m v) (render (n - 1) 0 m v) 46 (rw o)

      pub render_one : e ≡ 0 → v < 10 → Put l at (n - 1) (leader (n - 1) m) l1 → l2 ≡ set l1 (at + (n - 1)) (digit_of v) → Put l at n (render n e m v) l2
      unfolding render
      render_one o u = snoc (λ i. render i e m v) (leader (n - 1) m) (digit_of v) (rw (o, lt-ltb _ _ u))

      pub render_more : e ≡ 0 → 10 ≤ v → Put l at (n - 1) (render (n - 1) 0 m (v / 10)) l1 → l2 ≡ set l1 (at + (n - 1)) (digit_of v) → Put l at n (render n e m v) l2
      unfolding render
      render_more o u = snoc (λ i. render i e m v) (render (n - 1) 0 m (v / 10)) (digit_of v) (rw (o, le-ltb _ _ u))

      pub render_decimal : (e ≡ 1 → ⊥) → (e ≡ 0 → ⊥) → Put l at (n - 1) (render (n - 1) (e - 1) m (v / 10)) l1 → l2 ≡ set l1 (at + (n - 1)) (digit_of v) → Put l at n (render n e m v) l2
      unfolding render
      render_decimal o u = snoc (λ i. render i e m v) (render (n - 1) (e - 1) m (v / 10)) (digit_of v) (decimal e o u)
        where
          decimal : (e : ℕ) → (e ≡ 1 → ⊥) → (e ≡ 0 → ⊥) → render (suc (n - 1)) e m v ≡ render (n - 1) (e - 1) m (v / 10) ++ (digit_of v ∷ [])
          decimal zero o u = absurd (u refl)
          decimal (suc zero) o u = absurd (o refl)
          decimal (suc (suc e)) o u = let q : suc e ≡ suc (suc e) - 1 = omega arith in ap (λ i. render (n - 1) i m (v / 10) ++ (digit_of v ∷ [])) q
