-- One law for each `return` of the field readers.
-- Assumes nothing.
use mathlib.Core.Path.{◌≡◌, refl, sym, ◌∙◌, ap}
use mathlib.Core.List.{List}
use mathlib.Core.Bool.{Bool, true, false}
use Prim.Native.Nat.{ℕ, suc, ◌+◌, ◌≤◌, ◌<◌}
use Rattle.std.proofs.Common.{int_eq}
use Rattle.std.specs.Bool.{Decides}
use Rattle.std.proofs.lemmas.Bool.Decides.{same_from_decides, Decides-int_eq}
use lib.IntN.{ℤ, pos, negsuc, nat_abs}
use lib.Dec.{leb, eqb}
use mir.Syntax.{w32}
use mir.Val.{SFits, to_z, of_z}
use mir.ValLaws.{to_z-of_z}
use borrow.Author.Tests.{lt-ltb, le-ltb, ne_eqb, eqb-true, eq-eqb}
use Rattle.ascii.specs.Tests.{both}
use lib.ListN.{length}
use Rattle.fields.proofs.Caps.{small}
use Rattle.columns.specs.Columns.{Put}
use Rattle.std.specs.Prelude.{Some, None, Ok, Err}
use native.Mathlib.Omega.{arith}
use Rattle.columns.proofs.Readers.{read_wrong}
use Rattle.numbers.specs.declared.Decimal.{Decimal}
use Rattle.numbers.proofs.Readings.{given_some, given_none}
use Rattle.numbers.specs.Number.{given, number_of, render}
use Rattle.fields.specs.Field.{Judged, read_in, cap_of, signed_of, ranged_number, whole_in, wrong_whole, signed_number, integer_in, wrong_signed, spans_of, is_neg, same_integer}

-- where no number stands, or one that its range leaves out, the field is blamed
blamed : {A : Type 0} (at : ℕ) (r s : Judged A) → r ≡ s → r.column ≡ at + 1 → Err (record { 0 = at + 1 }) ≡ read_in s
blamed at r s e c = rw (← e) (rw c (read_wrong (at + 1) r.value (omega arith)))

module _ (l : List ℕ) (at n e : ℕ) where
  module _ (lo hi : ℕ) where
    pub whole_bad : None ≡ given (number_of l at n e) → Err (record { 0 = at + 1 }) ≡ read_in (ranged_number n e lo hi l at)
    unfolding whole_in
    whole_bad q = blamed at (wrong_whole at) _ (rw (given_none (number_of l at n e) q)) refl

    module _ (d : Decimal) (q : Some d ≡ given (number_of l at n e)) where
      g : (number_of l at n e).good ≡ true
      g = (given_some d (number_of l at n e) q).0

      m : (number_of l at n e).minus ≡ d.minus
      m = (given_some d (number_of l at n e) q).1

      v : (number_of l at n e).mag ≡ d.mag
      v = (given_some d (number_of l at n e) q).2

      pub whole_minus : d.minus ≡ true → Err (record { 0 = at + 1 }) ≡ read_in (ranged_number n e lo hi l at)
      unfolding whole_in
      whole_minus t = blamed at (wrong_whole at) _ (rw (g, m, t)) refl

      pub whole_low : d.minus ≡ false → d.mag < lo → Err (record { 0 = at + 1 }) ≡ read_in (ranged_number n e lo hi l at)
      unfolding whole_in
      whole_low t a = blamed at (wrong_whole at) _ (rw (g, m, t, v, lt-ltb _ _ a)) refl

      pub whole_high : d.minus ≡ false → lo ≤ d.mag → hi < d.mag → Err (record { 0 = at + 1 }) ≡ read_in (ranged_number n e lo hi l at)
      unfolding whole_in
      whole_high t a b = blamed at (wrong_whole at) _ (rw (g, m, t, v, le-ltb _ _ a, lt-ltb _ _ b)) refl

      pub whole_good : d.minus ≡ false → lo ≤ d.mag → d.mag ≤ hi → Ok d.mag ≡ read_in (ranged_number n e lo hi l at)
      unfolding whole_in
      whole_good t a b = rw (g, m, t, v, le-ltb _ _ a, le-ltb _ _ b)

  pub integer_bad : None ≡ given (number_of l at n e) → Err (record { 0 = at + 1 }) ≡ read_in (signed_number n e l at)
  unfolding integer_in
  integer_bad q = blamed at (wrong_signed at) _ (rw (given_none (number_of l at n e) q)) refl

  module _ (d : Decimal) (q : Some d ≡ given (number_of l at n e)) where
    ig : (number_of l at n e).good ≡ true
    ig = (given_some d (number_of l at n e) q).0

    im : (number_of l at n e).minus ≡ d.minus
    im = (given_some d (number_of l at n e) q).1

    iv : (number_of l at n e).mag ≡ d.mag
    iv = (given_some d (number_of l at n e) q).2

    pub integer_zero : d.minus ≡ true → d.mag ≡ 0 → Err (record { 0 = at + 1 }) ≡ read_in (signed_number n e l at)
    unfolding integer_in
    integer_zero t z = blamed at (wrong_signed at) _ (rw (ig, im, t, iv, z)) refl

    module _ (z : ℤ) where
      pub integer_minus : d.minus ≡ true → (d.mag ≡ 0 → ⊥) → z ≡ signed_of d.minus d.mag → SFits w32 z → Ok (to_z w32 (of_z w32 z)) ≡ read_in (signed_number n e l at)
      unfolding integer_in
      integer_minus t o r f = rw (to_z-of_z w32 z f, r, ig, im, t, iv, ne_eqb _ _ o)

      pub integer_plus : d.minus ≡ false → z ≡ signed_of d.minus d.mag → SFits w32 z → Ok (to_z w32 (of_z w32 z)) ≡ read_in (signed_number n e l at)
      unfolding integer_in
      integer_plus t r f = rw (to_z-of_z w32 z f, r, ig, im, t, iv)

-- a number that was answered is no higher than its columns hold
pub answered_small : (l : List ℕ) (at n e : ℕ) (d : Decimal) → Some d ≡ given (number_of l at n e) → at + n ≤ length l → cap_of n e true ≤ 1000000000 → cap_of n e false ≤ 1000000000
    → d.mag ≤ 1000000000
answered_small l at n e d q k a b = let w = given_some d (number_of l at n e) q in rw (← w.2) (go (number_of l at n e).minus refl)
  where
    go : (t : Bool) → (number_of l at n e).minus ≡ t → (number_of l at n e).mag ≤ 1000000000
    go true t = small l at n e (number_of l at n e) true refl k (given_some d (number_of l at n e) q).0 t a
    go false t = small l at n e (number_of l at n e) false refl k (given_some d (number_of l at n e) q).0 t b

module _ (z : ℤ) (v : ℕ) (m : Bool) (f : SFits w32 z) (a' : v ≡ nat_abs (to_z w32 (of_z w32 z))) (s' : m ≡ is_neg (to_z w32 (of_z w32 z))) where
  a : v ≡ nat_abs z
  a = a' ∙ ap nat_abs (to_z-of_z w32 z f)

  s : m ≡ is_neg z
  s = s' ∙ ap is_neg (to_z-of_z w32 z f)

  pub spans_minus : (low high : ℕ) → m ≡ true → leb v low ≡ spans_of low high z
  unfolding spans_of
  spans_minus low high t = rw (← a, ← s, t)

  pub spans_plus : (low high : ℕ) → m ≡ false → leb v high ≡ spans_of low high z
  unfolding spans_of
  spans_plus low high t = rw (← a, ← s, t)

  pub integer_put : (l l' : List ℕ) (at n e : ℕ) → Put l at n (render n e m v) l' → Put l at n (render n e (is_neg z) (nat_abs z)) l'
  integer_put l l' at n e p = rw (← a, ← s) p

-- the integer that is passed on is the one that came
pub integer_passed : (z : ℤ) (l l' : List ℕ) (at n e : ℕ) → SFits w32 z
    → Put l at n (render n e (is_neg (to_z w32 (of_z w32 z))) (nat_abs (to_z w32 (of_z w32 z)))) l' → Put l at n (render n e (is_neg z) (nat_abs z)) l'
integer_passed z l l' at n e f p = rw (to_z-of_z w32 z f) at p

-- integers of one sign and one magnitude are the same
same_true : (a b : ℤ) → same_integer a b ≡ true → a ≡ b
unfolding is_neg both
same_true (pos m) (pos n) e = ap pos (eqb-true m n e)
same_true (pos m) (negsuc n) e = cc
same_true (negsuc m) (pos n) e = cc
same_true (negsuc m) (negsuc n) e = let q : suc m ≡ suc n = eqb-true (suc m) (suc n) e in cc

same_self : (z : ℤ) → same_integer z z ≡ true
unfolding is_neg both
same_self (pos n) = eq-eqb n n refl
same_self (negsuc n) = eq-eqb (suc n) (suc n) refl

-- that test says that they are the same
decided : (x y : ℤ) → Decides (same_integer x y) (x ≡ y)
decided x y = (same_true x y, λ e. rw e (same_self y))

pub integers : (x y : ℤ) → SFits w32 x → SFits w32 y → eqb (of_z w32 x) (of_z w32 y) ≡ same_integer x y
integers x y fx fy = same_from_decides _ _ (from, λ e. eq-eqb _ _ (ap (of_z w32) e)) (decided x y)
  where
    from : eqb (of_z w32 x) (of_z w32 y) ≡ true → x ≡ y
    from t = sym (to_z-of_z w32 x fx) ∙ ap (to_z w32) (eqb-true _ _ t) ∙ to_z-of_z w32 y fy

-- the same as a struct's `==` compares them
pub ints_same : (x y : ℤ) → int_eq x y ≡ same_integer x y
ints_same x y = same_from_decides _ _ (Decides-int_eq x y) (decided x y)
