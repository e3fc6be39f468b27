-- One law for each `return` of `index_of`, and what is known of a capital.
-- Assumes nothing.
use mathlib.Core.Path.{◌≡◌, sym, ◌∙◌}
use mathlib.Core.List.{List}
use mathlib.Core.Bool.{Bool, true, false}
use Prim.Native.Nat.{ℕ, ◌+◌, ◌*◌, ◌-◌, ◌≤◌}
use native.Mathlib.Omega.{arith}
use lib.ListN.{length, get_or}
use borrow.Author.Tests.{eq-eqb, ne_eqb}
use Rattle.ascii.specs.Tests.{is_upper}
use Rattle.ascii.proofs.Choice.{between_low}
use Rattle.elements.specs.Elements.{index_of}

pub upper_low : (t : Bool) (b : ℕ) → t ≡ is_upper b → t ≡ true → 65 ≤ b
upper_low t b e q = between_low 65 90 b (sym e ∙ q)

pub upper_past : (t : Bool) (b : ℕ) → t ≡ is_upper b → t ≡ true → 64 ≤ b
upper_past t b e q = omega (arith, upper_low t b e q)

module _ (p : List ℕ) (n : length p ≡ 2) (t : Bool) (e : t ≡ is_upper (get_or p 1 0)) where
  pub index_one : t ≡ true → get_or p 0 0 ≡ 32 → get_or p 1 0 - 65 ≡ index_of p
  unfolding index_of
  index_one q z = rw (n, sym e ∙ q, eq-eqb _ _ z)

  pub index_two : (u : Bool) → t ≡ true → (get_or p 0 0 ≡ 32 → ⊥) → u ≡ is_upper (get_or p 0 0) → u ≡ true → 26 * (get_or p 0 0 - 64) + (get_or p 1 0 - 65) ≡ index_of p
  unfolding index_of
  index_two u q z f r = rw (n, sym e ∙ q, ne_eqb _ _ z, sym f ∙ r)

  pub index_odd : (u : Bool) → t ≡ true → (get_or p 0 0 ≡ 32 → ⊥) → u ≡ is_upper (get_or p 0 0) → u ≡ false → 702 ≡ index_of p
  unfolding index_of
  index_odd u q z f r = rw (n, sym e ∙ q, ne_eqb _ _ z, sym f ∙ r)

  pub index_none : t ≡ false → 702 ≡ index_of p
  unfolding index_of
  index_none q = rw (n, sym e ∙ q)
