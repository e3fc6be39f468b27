-- Whole numbers of 64 bits: what the code asks of products, sums and signs.
-- Assumes nothing.
use mathlib.Core.Path.{◌≡◌, refl, ◌∙◌, ap, ap₂}
use mathlib.Core.Bool.{Bool, true, false}
use Prim.Native.Nat.{ℕ, zero, suc, ◌+◌, ◌*◌, ◌/◌, ◌^◌, ◌≤◌, ◌<◌}
use native.Mathlib.Omega.{arith}
use native.Mathlib.Nat.{mul-le-mul_left}
use lib.Dec.{ltb, lit<}
use lib.IntN.{ℤ, pos, negsuc, neg_ℤ, nat_abs, sub_ℕ, ◌+ℤ◌, ◌-ℤ◌, ◌*ℤ◌, +ℤ_idl}
use lib.Signed.{lt_z}
use mir.Syntax.{w32, w64}
use mir.Val.{SFits, to_z, of_z}
use mir.ValLaws.{to_z-of_z}
use borrow.Author.Tests.{lt-ltb, le-ltb, ltb-true}
use Rattle.fields.specs.Field.{signed_of, is_neg}
use Rattle.coordinate.specs.declared.Position.{Position}
use Rattle.transform.specs.declared.Transform.{Transform}
use Rattle.fractional.specs.Place.{nearest, billionths}

-- ---- sizes
neg_abs : (z : ℤ) → nat_abs (neg_ℤ z) ≡ nat_abs z
neg_abs (pos zero) = refl
neg_abs (pos (suc n)) = refl
neg_abs (negsuc n) = refl

sub_abs : (a b : ℕ) → nat_abs (sub_ℕ a b) ≤ a + b
sub_abs a b = go (ltb a b) refl
  where
    go : (t : Bool) → ltb a b ≡ t → nat_abs (sub_ℕ a b) ≤ a + b
    go true e = rw e (omega (arith, ltb-true a b e))
    go false e = rw e (omega arith)

pub sum_abs : (a b : ℤ) → nat_abs (a +ℤ b) ≤ nat_abs a + nat_abs b
sum_abs (pos a) (pos b) = omega arith
sum_abs (pos a) (negsuc b) = sub_abs a (suc b)
sum_abs (negsuc a) (pos b) = omega (arith, sub_abs b (suc a))
sum_abs (negsuc a) (negsuc b) = omega arith

pub product_abs : (a b : ℤ) → nat_abs (a *ℤ b) ≡ nat_abs a * nat_abs b
product_abs (pos a) (pos b) = refl
product_abs (pos a) (negsuc b) = neg_abs (pos (a * suc b))
product_abs (negsuc a) (pos b) = neg_abs (pos (suc a * b))
product_abs (negsuc a) (negsuc b) = refl

-- a number of 32 bits
pub word_abs : (z : ℤ) → SFits w32 z → nat_abs z ≤ 2147483648
word_abs (pos n) f = omega (arith, f.sfits)
word_abs (negsuc n) f = omega (arith, f.sfits)

-- a small one fits 64 bits
pub fits_abs : (z : ℤ) (n : ℕ) → nat_abs z ≤ n → n < 2 ^ 63 → SFits w64 z
fits_abs (pos m) n h k = record { sfits = omega arith }
fits_abs (negsuc m) n h k = record { sfits = omega arith }

product_le : (a b : ℤ) → SFits w32 a → nat_abs b ≤ 9999999 → nat_abs (a *ℤ b) ≤ 50000000000000000
product_le a b f h =
    let p = mul-le-mul_left (nat_abs a) h in
    let q = word_abs a f in
    rw (product_abs a b) (omega arith)

-- ---- a number of 64 bits
same : (z : ℤ) → SFits w64 z → to_z w64 (of_z w64 z) ≡ z
same z f = to_z-of_z w64 z f

-- ---- size and sign
minus_is : (z : ℤ) → pos 0 -ℤ z ≡ neg_ℤ z
minus_is z = +ℤ_idl (neg_ℤ z)

lt_neg : (z : ℤ) → lt_z z (pos 0) ≡ is_neg z
unfolding is_neg
lt_neg (pos n) = le-ltb n 0 (omega arith)
lt_neg (negsuc n) = refl

neg_signed : (v : ℕ) → neg_ℤ (pos v) ≡ signed_of true v
unfolding signed_of
neg_signed zero = refl
neg_signed (suc v) = refl

module _ (z : ℤ) (f : SFits w64 z) where
  pub sign_is : lt_z (to_z w64 (of_z w64 z)) (pos 0) ≡ is_neg z
  sign_is = rw (same z f) (lt_neg z)

module _ (v : ℕ) (h : v ≤ 200000000000000000) where
  pos_is : to_z w64 v ≡ pos v
  pos_is = rw (lt-ltb v (2 ^ 63) (omega arith))

  pub signed_fits : SFits w64 (pos 0 -ℤ to_z w64 v)
  signed_fits = rw (pos_is, minus_is) (fits_abs (neg_ℤ (pos v)) 200000000000000000 (rw neg_abs h) (lit< tt))

  pub signed_minus : (m : Bool) → m ≡ true → to_z w64 (of_z w64 (pos 0 -ℤ to_z w64 v)) ≡ signed_of m v
  signed_minus m t = same _ signed_fits ∙ rw (pos_is, minus_is, t) (neg_signed v)

  pub signed_plus : (m : Bool) → m ≡ false → to_z w64 v ≡ signed_of m v
  unfolding signed_of
  signed_plus m t = rw (pos_is, t)

-- ---- a row times three coordinates
abbrev held : ℤ → ℤ
held z = to_z w32 (of_z w32 z)

abbrev held64 : ℤ → ℤ
held64 z = to_z w64 (of_z w64 z)

product_is : (a b x : ℤ) → x ≡ held a *ℤ held b → SFits w32 a → SFits w32 b → x ≡ a *ℤ b
product_is a b x e f g = e ∙ ap₂ ◌*ℤ◌ (to_z-of_z w32 a f) (to_z-of_z w32 b g)

product_held : (a b x : ℤ) → x ≡ a *ℤ b → SFits w32 a → nat_abs b ≤ 9999999 → held64 x ≡ a *ℤ b
product_held a b x e f h = rw e (same (a *ℤ b) (fits_abs (a *ℤ b) 50000000000000000 (product_le a b f h) (lit< tt)))

module _ (r : Transform) (p : Position) (fx : SFits w32 r.by.x) (fy : SFits w32 r.by.y) (fz : SFits w32 r.by.z) (fs : SFits w32 r.shift)
    (gx : SFits w32 p.x) (gy : SFits w32 p.y) (gz : SFits w32 p.z)
    (h : (nat_abs p.x ≤ 9999999) × (nat_abs p.y ≤ 9999999) × (nat_abs p.z ≤ 9999999))
    (x y z s : ℤ) (ex : x ≡ held r.by.x *ℤ held p.x) (ey : y ≡ held r.by.y *ℤ held p.y) (ez : z ≡ held r.by.z *ℤ held p.z)
    (k : ℕ) (ks : k ≤ 9999999) (es : s ≡ held r.shift *ℤ pos k) where
  x_is : held64 x ≡ r.by.x *ℤ p.x
  x_is = product_held r.by.x p.x x (product_is _ _ x ex fx gx) fx h.0

  y_is : held64 y ≡ r.by.y *ℤ p.y
  y_is = product_held r.by.y p.y y (product_is _ _ y ey fy gy) fy h.1

  z_is : held64 z ≡ r.by.z *ℤ p.z
  z_is = product_held r.by.z p.z z (product_is _ _ z ez fz gz) fz h.2

  s_is : held64 s ≡ r.shift *ℤ pos k
  s_is = product_held r.shift (pos k) s (es ∙ ap (λ (n : ℤ). n *ℤ pos k) (to_z-of_z w32 r.shift fs)) fs ks

  pub row_small : (nat_abs (held64 x) ≤ 50000000000000000) × (nat_abs (held64 y) ≤ 50000000000000000) × (nat_abs (held64 z) ≤ 50000000000000000) × (nat_abs (held64 s) ≤ 50000000000000000)
  row_small = (
    rw x_is (product_le r.by.x p.x fx h.0),
    rw y_is (product_le r.by.y p.y fy h.1),
    rw z_is (product_le r.by.z p.z fz h.2),
    rw s_is (product_le r.shift (pos k) fs ks),
  )

  row_abs : nat_abs (r.by.x *ℤ p.x +ℤ r.by.y *ℤ p.y +ℤ r.by.z *ℤ p.z +ℤ r.shift *ℤ pos k) ≤ 200000000000000000
  row_abs =
      let a : nat_abs (r.by.x *ℤ p.x) ≤ 50000000000000000 = product_le r.by.x p.x fx h.0 in
      let b : nat_abs (r.by.y *ℤ p.y) ≤ 50000000000000000 = product_le r.by.y p.y fy h.1 in
      let c : nat_abs (r.by.z *ℤ p.z) ≤ 50000000000000000 = product_le r.by.z p.z fz h.2 in
      let d : nat_abs (r.shift *ℤ pos k) ≤ 50000000000000000 = product_le r.shift (pos k) fs ks in
      let i = sum_abs (r.by.x *ℤ p.x) (r.by.y *ℤ p.y) in
      let j = sum_abs (r.by.x *ℤ p.x +ℤ r.by.y *ℤ p.y) (r.by.z *ℤ p.z) in
      let l = sum_abs (r.by.x *ℤ p.x +ℤ r.by.y *ℤ p.y +ℤ r.by.z *ℤ p.z) (r.shift *ℤ pos k) in
      omega arith

  pub row_is : k ≡ 10000 → (w : ℤ) → w ≡ held64 x +ℤ held64 y +ℤ held64 z +ℤ held64 s → held64 w ≡ billionths r p
  unfolding billionths
  row_is q w e = rw (e, x_is, y_is, z_is, s_is) (same _ (fits_abs _ 200000000000000000 row_abs (lit< tt)) ∙ ap (λ (n : ℕ). r.by.x *ℤ p.x +ℤ r.by.y *ℤ p.y +ℤ r.by.z *ℤ p.z +ℤ r.shift *ℤ pos n) q)

-- ---- rounding
signed_held : (m : Bool) (v : ℕ) → v ≤ 200000000000000000 → held64 (signed_of m v) ≡ signed_of m v
unfolding signed_of
signed_held false v h = same (pos v) (fits_abs (pos v) 200000000000000000 h (lit< tt))
signed_held true zero h = refl
signed_held true (suc v) h = same (negsuc v) (fits_abs (negsuc v) 200000000000000000 h (lit< tt))

pub near_is : (z : ℤ) (v : ℕ) (m : Bool) (r : ℤ) → nat_abs z ≤ 200000000000000000 → SFits w64 z → v ≡ nat_abs (held64 z) → m ≡ is_neg (held64 z)
    → r ≡ signed_of m ((v + 5000) / 10000) → held64 r ≡ nearest z
unfolding nearest
near_is z v m r h f e g q =
    let i : v ≡ nat_abs z = e ∙ ap nat_abs (same z f) in
    let j : m ≡ is_neg z = g ∙ ap is_neg (same z f) in
    let k : (nat_abs z + 5000) / 10000 ≤ 200000000000000000 = omega arith in
    rw (q, i, j) (signed_held (is_neg z) ((nat_abs z + 5000) / 10000) k)
