-- Products that the reading of a number forms: zeros behind it, and a multiple of it by a sum. None passes 64 bits.
-- Assumes nothing.
use mathlib.Core.Path.{◌≡◌, refl, sym, ◌∙◌, ap}
use Prim.Native.Nat.{ℕ, ◌+◌, ◌-◌, ◌*◌, ◌/◌, ◌%◌, ◌^◌, ◌≤◌}
use native.Mathlib.Nat.{mul-zero, mul_comm, mul_assoc, mul-add, mul-le-mul_left, le-mul_of_pos_right, one-le-pow, pow-suc, pow-le-pow_right, le_trans}
use native.Mathlib.Omega.{arith}
use mir.Val.{Fits}
use mir.Syntax.{w64}
use lib.Dec.{lit<}
use Rattle.numbers.specs.Runs.{dec_of}
use Rattle.numbers.proofs.Steps.{down}
use Rattle.numbers.proofs.Runs.{dec_none, dec_some, dec_below}

-- ---- the zeros behind a number
scale_down : (s n : ℕ) → (n ≡ 0 → ⊥) → (10 * s) * 10 ^ (n - 1) ≡ s * 10 ^ n
scale_down s n z = sym (ap (λ m. s * 10 ^ m) (down n z) ∙ rw (pow-suc, mul_comm (10 ^ (n - 1)) 10, ← mul_assoc, mul_comm s 10))

pub raise_none : (v n : ℕ) → n ≡ 0 → v ≡ v * 10 ^ n
raise_none v n z = rw z (omega arith)

pub raise_less : (v n : ℕ) → (n ≡ 0 → ⊥) → v * 10 ^ n ≤ 20000000000000000 → (10 * v) * 10 ^ (n - 1) ≤ 20000000000000000
raise_less v n z b = rw (scale_down v n z) b

pub raise_fits : (v n : ℕ) → (n ≡ 0 → ⊥) → v * 10 ^ n ≤ 20000000000000000 → Fits w64 (10 * v)
raise_fits v n z b =
    let t : 10 * v ≤ (10 * v) * 10 ^ (n - 1) = le-mul_of_pos_right (10 * v) (one-le-pow (n - 1) 10 (lit< tt)) in
    let u = raise_less v n z b in
    omega arith

pub raise_some : (v n r : ℕ) → (n ≡ 0 → ⊥) → r ≡ (10 * v) * 10 ^ (n - 1) → r ≡ v * 10 ^ n
raise_some v n r z e = e ∙ scale_down v n z

-- both parts are small
pub whole_small : (c w d x : ℕ) → w ≤ 8 → d ≤ 8 → x ≡ dec_of c w → x * 10 ^ d ≤ 20000000000000000
whole_small c w d x a b e =
    let p : 10 ^ w ≤ 10 ^ 8 = pow-le-pow_right (lit< tt) a in
    let q : 10 ^ d ≤ 10 ^ 8 = pow-le-pow_right (lit< tt) b in
    let t : x ≤ 200000000 = omega (arith, dec_below c w) in
    let m : x * 10 ^ d ≤ x * 100000000 = mul-le-mul_left x q in
    omega arith

pub parts_fit : (c w d m x u v : ℕ) → w ≤ 8 → d ≤ 8 → x ≡ dec_of c w → u ≡ x * 10 ^ d → v ≡ dec_of m d → Fits w64 (u + v)
parts_fit c w d m x u v a b e f g =
    let q : 10 ^ d ≤ 10 ^ 8 = pow-le-pow_right (lit< tt) b in
    let s = whole_small c w d x a b e in
    let t : v ≤ 200000000 = omega (arith, dec_below m d) in
    omega arith

-- ---- a multiple of the number, by a sum
pub scale_ten : (s n : ℕ) → (n ≡ 0 → ⊥) → s * 10 ^ n ≤ 100000000 → 10 * s ≤ 100000000
scale_ten s n z b = le_trans (le-mul_of_pos_right (10 * s) (one-le-pow (n - 1) 10 (lit< tt))) (rw (scale_down s n z) b)

pub scale_less : (s n : ℕ) → (n ≡ 0 → ⊥) → s * 10 ^ n ≤ 100000000 → (10 * s) * 10 ^ (n - 1) ≤ 100000000
scale_less s n z b = rw (scale_down s n z) b

pub scale_none : (s w n : ℕ) → n ≡ 0 → 0 ≡ s * dec_of w n
scale_none s w n z = sym (ap (λ x. s * x) (sym (dec_none w n z)) ∙ mul-zero s)

pub scale_some : (s w n h : ℕ) → (n ≡ 0 → ⊥) → h ≡ (10 * s) * dec_of (w / 16) (n - 1) → h + s * (w % 16) ≡ s * dec_of w n
scale_some s w n h z e =
    sym (ap (λ x. s * x) (sym (dec_some w n z (dec_of (w / 16) (n - 1)) (10 * dec_of (w / 16) (n - 1) + w % 16) refl refl))
    ∙ mul-add s (10 * dec_of (w / 16) (n - 1)) (w % 16)
    ∙ ap (λ x. x + s * (w % 16)) (sym (mul_assoc s 10 (dec_of (w / 16) (n - 1))) ∙ ap (λ x. x * dec_of (w / 16) (n - 1)) (mul_comm s 10) ∙ sym e))

pub scale_digit : (s w n : ℕ) → (n ≡ 0 → ⊥) → s * 10 ^ n ≤ 100000000 → s * (w % 16) ≤ 1600000000
scale_digit s w n z b =
    let t : 10 * s ≤ 100000000 = scale_ten s n z b in
    let q : w % 16 ≤ 16 = omega arith in
    let m : s * (w % 16) ≤ s * 16 = mul-le-mul_left s q in
    omega arith

pub scale_part : (s w n h : ℕ) → (n ≡ 0 → ⊥) → s * 10 ^ n ≤ 100000000 → h ≡ (10 * s) * dec_of (w / 16) (n - 1) → h ≤ 200000000
scale_part s w n h z b e =
    let d : dec_of (w / 16) (n - 1) ≤ 10 ^ (n - 1) * 2 = omega (arith, dec_below (w / 16) (n - 1)) in
    let m : (10 * s) * dec_of (w / 16) (n - 1) ≤ (10 * s) * (10 ^ (n - 1) * 2) = mul-le-mul_left (10 * s) d in
    let a : (10 * s) * (10 ^ (n - 1) * 2) ≡ ((10 * s) * 10 ^ (n - 1)) * 2 = sym (mul_assoc (10 * s) (10 ^ (n - 1)) 2) in
    let c : (10 * s) * 10 ^ (n - 1) ≤ 100000000 = scale_less s n z b in
    omega arith

pub scale_one : (n : ℕ) → n ≤ 8 → 1 * 10 ^ n ≤ 100000000
scale_one n b = let p : 10 ^ n ≤ 10 ^ 8 = pow-le-pow_right (lit< tt) b in omega arith

pub scale_ten_fits : (s n : ℕ) → (n ≡ 0 → ⊥) → s * 10 ^ n ≤ 100000000 → Fits w64 (10 * s)
scale_ten_fits s n z b = let t : 10 * s ≤ 100000000 = scale_ten s n z b in omega arith

pub scale_digit_fits : (s w n : ℕ) → (n ≡ 0 → ⊥) → s * 10 ^ n ≤ 100000000 → Fits w64 (s * (w % 16))
scale_digit_fits s w n z b = let t : s * (w % 16) ≤ 1600000000 = scale_digit s w n z b in omega arith

pub scale_sum_fits : (s w n h : ℕ) → (n ≡ 0 → ⊥) → s * 10 ^ n ≤ 100000000 → h ≡ (10 * s) * dec_of (w / 16) (n - 1) → Fits w64 (h + s * (w % 16))
scale_sum_fits s w n h z b e =
    let t : s * (w % 16) ≤ 1600000000 = scale_digit s w n z b in
    let u : h ≤ 200000000 = scale_part s w n h z b e in
    omega arith
