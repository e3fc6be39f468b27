-- Signed numbers: what the code asks of an `i32` that it makes of a sign and a magnitude, and takes apart.
-- Assumes nothing.
use mathlib.Core.Path.{◌≡◌, refl, ◌∙◌, ap}
use mathlib.Core.Bool.{Bool, true, false}
use Prim.Native.Nat.{ℕ, zero, suc, ◌^◌, ◌≤◌, ◌<◌}
use native.Mathlib.Omega.{arith}
use lib.Dec.{T, lit<}
use lib.IntN.{ℤ, pos, negsuc, neg_ℤ, nat_abs, ◌-ℤ◌, +ℤ_idl}
use lib.Signed.{mag, lt_z, non_neg}
use mir.Syntax.{w32, w64}
use mir.Val.{SFits, Fits, to_z, of_z}
use mir.ValLaws.{to_z-of_z}
use borrow.Author.Tests.{lt-ltb, le-ltb, ltb-true}
use Rattle.fields.specs.Field.{signed_of, is_neg}

minus_is : (z : ℤ) → pos 0 -ℤ z ≡ neg_ℤ z
minus_is z = +ℤ_idl (neg_ℤ z)

neg_fits : (z : ℤ) → mag z < 2 ^ 31 → mag (neg_ℤ z) < 2 ^ 63
neg_fits (pos zero) h = lit< tt
neg_fits (pos (suc n)) h = omega arith
neg_fits (negsuc n) h = omega arith

neg_abs : (z : ℤ) → nat_abs (neg_ℤ z) ≡ nat_abs z
neg_abs (pos zero) = refl
neg_abs (pos (suc n)) = refl
neg_abs (negsuc n) = refl

abs_small : (z : ℤ) → mag z < 2 ^ 31 → nat_abs z < 2 ^ 64
abs_small (pos n) h = omega arith
abs_small (negsuc n) h = omega arith

neg_good : (z : ℤ) → lt_z z (pos 0) ≡ true → T (non_neg (neg_ℤ z))
neg_good (pos zero) t = tt
neg_good (pos (suc n)) t = absurd (omega (arith, ltb-true (suc n) 0 t))
neg_good (negsuc n) t = tt

plus_good : (z : ℤ) → lt_z z (pos 0) ≡ false → T (non_neg z)
plus_good (pos n) t = tt
plus_good (negsuc n) t = let q : ◌≡◌ {A = ℕ} 0 1 = cc in absurd (omega arith)

lt_neg : (z : ℤ) → lt_z z (pos 0) ≡ is_neg z
unfolding is_neg
lt_neg (pos n) = le-ltb n 0 (omega arith)
lt_neg (negsuc n) = refl

neg_small : (v : ℕ) → v ≤ 1000000000 → mag (neg_ℤ (pos v)) < 2 ^ 31
neg_small zero h = lit< tt
neg_small (suc v) h = omega arith

neg_signed : (v : ℕ) → neg_ℤ (pos v) ≡ signed_of true v
unfolding signed_of
neg_signed zero = refl
neg_signed (suc v) = refl

module _ (z : ℤ) (f : SFits w32 z) where
  pub same32 : to_z w32 (of_z w32 z) ≡ z
  same32 = to_z-of_z w32 z f

  pub wide : SFits w64 (to_z w32 (of_z w32 z))
  wide = rw same32 (record { sfits = omega (arith, f.sfits) })

  pub same64 : to_z w64 (of_z w64 (to_z w32 (of_z w32 z))) ≡ z
  same64 = to_z-of_z w64 (to_z w32 (of_z w32 z)) wide ∙ same32

  pub minus_fits : SFits w64 (pos 0 -ℤ to_z w64 (of_z w64 (to_z w32 (of_z w32 z))))
  minus_fits = rw (same64, minus_is) (record { sfits = neg_fits z f.sfits })

  pub minus_same : to_z w64 (of_z w64 (pos 0 -ℤ to_z w64 (of_z w64 (to_z w32 (of_z w32 z))))) ≡ neg_ℤ z
  minus_same = to_z-of_z w64 _ minus_fits ∙ rw same64 (minus_is z)

  pub minus_cast : lt_z (to_z w64 (of_z w64 (to_z w32 (of_z w32 z)))) (pos 0) ≡ true → T (non_neg (to_z w64 (of_z w64 (pos 0 -ℤ to_z w64 (of_z w64 (to_z w32 (of_z w32 z))))))) × Fits w64 (nat_abs (to_z w64 (of_z w64 (pos 0 -ℤ to_z w64 (of_z w64 (to_z w32 (of_z w32 z)))))))
  minus_cast t = rw minus_same (neg_good z (rw same64 at t), record { fits = rw neg_abs (abs_small z f.sfits) })

  pub minus_abs : nat_abs (to_z w64 (of_z w64 (pos 0 -ℤ to_z w64 (of_z w64 (to_z w32 (of_z w32 z)))))) ≡ nat_abs z
  minus_abs = ap nat_abs minus_same ∙ neg_abs z

  pub plus_cast : lt_z (to_z w64 (of_z w64 (to_z w32 (of_z w32 z)))) (pos 0) ≡ false → T (non_neg (to_z w64 (of_z w64 (to_z w32 (of_z w32 z))))) × Fits w64 (nat_abs (to_z w64 (of_z w64 (to_z w32 (of_z w32 z)))))
  plus_cast t = rw same64 (plus_good z (rw same64 at t), record { fits = abs_small z f.sfits })

  pub plus_abs : nat_abs (to_z w64 (of_z w64 (to_z w32 (of_z w32 z)))) ≡ nat_abs z
  plus_abs = ap nat_abs same64

  pub sign_is : lt_z (to_z w32 (of_z w32 z)) (pos 0) ≡ is_neg z
  sign_is = rw same32 (lt_neg z)

module _ (v : ℕ) (h : v ≤ 1000000000) where
  pub pos_is : to_z w32 v ≡ pos v
  pos_is = rw (lt-ltb v (2 ^ 31) (omega arith))

  pub joined_fits : SFits w32 (pos 0 -ℤ to_z w32 v)
  joined_fits = rw (pos_is, minus_is) (record { sfits = neg_small v h })

  pub joined_minus : (m : Bool) → m ≡ true → to_z w32 (of_z w32 (pos 0 -ℤ to_z w32 v)) ≡ signed_of m v
  joined_minus m t = to_z-of_z w32 _ joined_fits ∙ rw (pos_is, minus_is, t) (neg_signed v)

  pub joined_plus : (m : Bool) → m ≡ false → to_z w32 v ≡ signed_of m v
  unfolding signed_of
  joined_plus m t = rw (pos_is, t)
