-- What a fractional place is: never far off, never too far.
-- Assumes nothing.
use mathlib.Core.Path.{◌≡◌, refl}
use mathlib.Core.Bool.{Bool, true, false, false≢true}
use Prim.Native.Nat.{ℕ, zero, suc, ◌+◌, ◌*◌, ◌/◌, ◌%◌, ◌≤◌}
use native.Mathlib.Omega.{arith}
use native.Mathlib.Nat.{mul-le-mul}
use lib.Dec.{ltb}
use lib.IntN.{ℤ, pos, negsuc, nat_abs, sub_ℕ, ◌+ℤ◌, ◌-ℤ◌, ◌*ℤ◌, neg_ℤ-neg_ℤ}
use borrow.Author.Tests.{leb-true, ltb-true, ltb-false}
use Rattle.ascii.specs.Tests.{pick}
use Rattle.ascii.proofs.Choice.{both_split}
use Rattle.fields.specs.Field.{signed_of, is_neg, spans_of}
use Rattle.coordinate.specs.declared.Position.{Position}
use Rattle.coordinate.specs.Atoms.{position_f, position_columns}
use Rattle.transform.specs.declared.Transform.{Transform}
use Rattle.transform.specs.Transforms.{transform_f, transform_columns, coefficients_columns}
use Rattle.fractional.specs.Place.{billionths, nearest}
use Rattle.fractional.specs.Promise.{Places}
use Rattle.fractional.proofs.Whole.{sum_abs, product_abs}

-- ---- what the ranges say of the size
spans_abs : (low high : ℕ) (z : ℤ) → low ≤ high → spans_of low high z ≡ true → nat_abs z ≤ high
unfolding spans_of
spans_abs low high z h e = go (is_neg z) (leb-true (nat_abs z) (pick (is_neg z) low high) e)
  where
    go : (b : Bool) → nat_abs z ≤ pick b low high → nat_abs z ≤ high
    go true k = omega arith
    go false k = k

pub position_abs : (p : Position) → position_f.ok p ≡ true → (nat_abs p.x ≤ 9999999) × (nat_abs p.y ≤ 9999999) × (nat_abs p.z ≤ 9999999)
unfolding position_columns
position_abs p e =
    let a = both_split (spans_of 999999 9999999 p.x) _ e in
    let b = both_split (spans_of 999999 9999999 p.y) _ a.1 in
    (spans_abs 999999 9999999 p.x (omega arith) a.0, spans_abs 999999 9999999 p.y (omega arith) b.0, spans_abs 999999 9999999 p.z (omega arith) b.1)

-- ---- the size of a place
module _ (r : Transform) (p : Position) (n m : ℕ) (hx : nat_abs r.by.x ≤ n) (hy : nat_abs r.by.y ≤ n) (hz : nat_abs r.by.z ≤ n) (hs : nat_abs r.shift ≤ n)
    (h : (nat_abs p.x ≤ m) × (nat_abs p.y ≤ m) × (nat_abs p.z ≤ m)) where
  pub place_abs : nat_abs (billionths r p) ≤ 3 * (n * m) + n * 10000
  unfolding billionths
  place_abs =
      let a : nat_abs (r.by.x *ℤ p.x) ≤ n * m = rw (product_abs r.by.x p.x) (mul-le-mul hx h.0) in
      let b : nat_abs (r.by.y *ℤ p.y) ≤ n * m = rw (product_abs r.by.y p.y) (mul-le-mul hy h.1) in
      let c : nat_abs (r.by.z *ℤ p.z) ≤ n * m = rw (product_abs r.by.z p.z) (mul-le-mul hz h.2) in
      let d : nat_abs (r.shift *ℤ pos 10000) ≤ n * 10000 = rw (product_abs r.shift (pos 10000)) (mul-le-mul hs (omega arith)) in
      let i = sum_abs (r.by.x *ℤ p.x) (r.by.y *ℤ p.y) in
      let j = sum_abs (r.by.x *ℤ p.x +ℤ r.by.y *ℤ p.y) (r.by.z *ℤ p.z) in
      let k = sum_abs (r.by.x *ℤ p.x +ℤ r.by.y *ℤ p.y +ℤ r.by.z *ℤ p.z) (r.shift *ℤ pos 10000) in
      omega arith

worst : (r : Transform) (p : Position) → transform_f.ok r ≡ true → position_f.ok p ≡ true → nat_abs (billionths r p) ≤ 30009996969990003
unfolding transform_columns coefficients_columns
worst r p e q =
    let a = both_split _ _ e in
    let x = both_split (spans_of 99999999 999999999 r.by.x) _ a.0 in
    let y = both_split (spans_of 99999999 999999999 r.by.y) _ x.1 in
    let s = both_split (spans_of 99999999 999999999 r.shift) _ a.1 in
    let b = place_abs r p 999999999 9999999 (big r.by.x x.0) (big r.by.y y.0) (big r.by.z y.1) (big r.shift s.0) (position_abs p q) in
    omega arith
  where
    big : (z : ℤ) → spans_of 99999999 999999999 z ≡ true → nat_abs z ≤ 999999999
    big z = spans_abs 99999999 999999999 z (omega arith)

any : (r : Transform) (p : Position) → nat_abs r.by.x ≤ 2147483648 → nat_abs r.by.y ≤ 2147483648 → nat_abs r.by.z ≤ 2147483648 → nat_abs r.shift ≤ 2147483648
    → position_f.ok p ≡ true → nat_abs (billionths r p) ≤ 64445977834029056
any r p a b c d e = let k = place_abs r p 2147483648 9999999 a b c d (position_abs p e) in omega arith

-- ---- rounding

sub_near : (a b : ℕ) → a ≤ b + 5000 → b ≤ a + 5000 → nat_abs (sub_ℕ a b) ≤ 5000
sub_near a b h k = go (ltb a b) refl
  where
    go : (t : Bool) → ltb a b ≡ t → nat_abs (sub_ℕ a b) ≤ 5000
    go true e = rw e (omega (arith, ltb-true a b e))
    go false e = rw e (omega (arith, ltb-false a b e))

minus_near : (a b : ℕ) → a ≤ b + 5000 → b ≤ a + 5000 → nat_abs (pos a -ℤ pos b) ≤ 5000
minus_near a zero h k = omega arith
minus_near a (suc b) h k = sub_near a (suc b) h k

plus_near : (a b : ℕ) → suc a ≤ b + 5000 → b ≤ suc a + 5000 → nat_abs (negsuc a +ℤ pos b) ≤ 5000
plus_near a b h k = sub_near b (suc a) k h

neg_near : (m q : ℕ) → suc m ≤ q * 10000 + 5000 → q * 10000 ≤ suc m + 5000 → nat_abs (negsuc m -ℤ signed_of true q *ℤ pos 10000) ≤ 5000
unfolding signed_of
neg_near m zero h k = plus_near m 0 h k
neg_near m (suc q) h k = rw (neg_ℤ-neg_ℤ (pos (suc q * 10000))) (plus_near m (suc q * 10000) h k)

near : (z : ℤ) → nat_abs (z -ℤ nearest z *ℤ pos 10000) ≤ 5000
unfolding nearest is_neg signed_of
near (pos m) = minus_near m ((m + 5000) / 10000 * 10000) (omega arith) (omega arith)
near (negsuc m) = neg_near m ((suc m + 5000) / 10000) (omega arith) (omega arith)

pub near_size : (z : ℤ) → nat_abs (nearest z) ≡ (nat_abs z + 5000) / 10000
unfolding nearest is_neg signed_of
near_size (pos m) = refl
near_size (negsuc m) = go ((suc m + 5000) / 10000)
  where
    go : (q : ℕ) → nat_abs (signed_of true q) ≡ q
    go zero = refl
    go (suc q) = refl

half : (z : ℤ) → nat_abs z % 10000 ≡ 5000 → 10000 * nat_abs (nearest z) ≡ nat_abs z + 5000
half z e = rw (near_size z) (omega arith)

side : (z : ℤ) → is_neg (nearest z) ≡ true → is_neg z ≡ true
unfolding nearest is_neg signed_of
side (pos m) e = absurd (false≢true e)
side (negsuc m) e = refl

pub places : Places
places = record { near = near; half = half; side = side; worst = worst; any = any }
