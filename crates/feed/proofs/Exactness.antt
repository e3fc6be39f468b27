-- `exactly z l` is the one f64 whose value is z / 2 ^ l; a cast, a sum and a halving of numbers that fit give it.
-- Assumes nothing.
use mathlib.Core.Path.{◌≡◌, refl, sym, ap, ◌∙◌, subst}
use Prim.Native.Nat.{ℕ, zero, suc, ◌+◌, ◌-◌, ◌*◌, ◌/◌, ◌%◌, ◌^◌, ◌≤◌, ◌<◌}
use native.Mathlib.Nat.{zero-lt-suc, add_right_comm, lt_irrefl, le_of_lt, lt_trans, lt_of_lt_of_le, lt_of_le_of_lt, add-le-add, zero-add, add-mul, mul-sub, mul-one, one-mul, zero-mul, mul-pos, mul-le-mul_right, mul_comm, mul_assoc, mul_left_comm, mul_right_comm, pow-suc, pow-succ', eq_of_mul-eq-mul_right, mul-lt-mul_of_pos_right}
use native.Mathlib.Omega.{arith}
use mathlib.Core.Bool.{Bool, true, false, not, ◌&&◌, beq, cond}
use lib.IntN.{ℤ, pos, negsuc, nat_abs, ◌+ℤ◌}
use lib.Dec.{T, leb, ltb, eqb, eqb→eq, ltb→lt, nltb→le, lit≤, lit<}
use lib.Signed.{nat_abs-le}
use mir.Syntax.{w32}
use mir.Val.{SFits, to_z, of_z}
use mir.Facts.{to_z-of_z}
use lib.Pow.{pow_pos, pow_mono, shl_lt}
use lib.Count.{count_trailing_zeros}
use lib.Ieee.{Float, nan, inf, fin, Format, binary64, prec, emax, low, up, down, unlike, minus, odd, round, sum, add, mul, of_bits, of_int, fits}
use lib.Ieee.Fits.{odd-fits, of_int-fits, mul-fits, and_l, up_pos, down_pos}
use lib.Ieee.Exact.{HasValue, odd_sign, round_exact}
use lib.Ieee.Back.{round_whole}
use lib.Ieee.Scale.{round_same}
use borrow.Author.Tests.{ltb-true, ltb-false, leb-true, leb-false, lt-ltb, le-ltb, le-leb, lt-leb}
use Rattle.fields.specs.Field.{is_neg}
use Rattle.feed.specs.Exact.{exactly}

-- ---- a value is written in one way

even_odd : (m t : ℕ) → m % 2 ≡ 1 → m ≡ 2 * t → ⊥
even_odd m t o h = omega arith

even : (n b : ℕ) → n * 2 ^ suc b ≡ 2 * (n * 2 ^ b)
even n b = ap (λ (x : ℕ). n * x) (pow-succ' 2 b) ∙ mul_left_comm n 2 (2 ^ b)

odd_pow : (m n a b : ℕ) → m % 2 ≡ 1 → n % 2 ≡ 1 → m * 2 ^ a ≡ n * 2 ^ b → (m ≡ n) × (a ≡ b)
odd_pow m n zero zero o p h = (sym (mul-one m) ∙ h ∙ mul-one n, refl)
odd_pow m n zero (suc b) o p h = absurd (even_odd m (n * 2 ^ b) o (sym (mul-one m) ∙ h ∙ even n b))
odd_pow m n (suc a) zero o p h = absurd (even_odd n (m * 2 ^ a) p (sym (mul-one n) ∙ sym h ∙ even m a))
odd_pow m n (suc a) (suc b) o p h =
    let r = odd_pow m n a b o p (eq_of_mul-eq-mul_right 2 (zero-lt-suc 1) (m * 2 ^ a) (n * 2 ^ b)
    (mul_assoc m (2 ^ a) 2 ∙ ap (λ (x : ℕ). m * x) (sym (pow-suc 2 a)) ∙ h ∙ ap (λ (x : ℕ). n * x) (pow-suc 2 b) ∙ sym (mul_assoc n (2 ^ b) 2))) in
    (r.0, ap suc r.1)

pred_same : (a b : ℕ) → suc b ≡ suc a → a ≡ b
pred_same a b h = omega arith

-- two odd numbers times powers of two
same_odd : (m n : ℕ) (e d : ℤ) → m % 2 ≡ 1 → n % 2 ≡ 1 → m * up e * down d ≡ n * up d * down e → (m ≡ n) × (e ≡ d)
same_odd m n (pos a) (pos b) o p h =
    let r = odd_pow m n a b o p (sym (mul-one (m * 2 ^ a)) ∙ h ∙ mul-one (n * 2 ^ b)) in (r.0, ap pos r.1)
same_odd m n (pos a) (negsuc b) o p h =
    absurd (even_odd n (m * 2 ^ a * 2 ^ b) p (sym (mul-one n) ∙ sym (mul-one (n * 1)) ∙ sym h ∙ even (m * 2 ^ a) b))
same_odd m n (negsuc a) (pos b) o p h =
    absurd (even_odd m (n * 2 ^ b * 2 ^ a) o (sym (mul-one m) ∙ sym (mul-one (m * 1)) ∙ h ∙ even (n * 2 ^ b) a))
same_odd m n (negsuc a) (negsuc b) o p h =
    let r = odd_pow m n (suc b) (suc a) o p (ap (λ (x : ℕ). x * 2 ^ suc b) (sym (mul-one m)) ∙ h ∙ ap (λ (x : ℕ). x * 2 ^ suc a) (mul-one n)) in
    (r.0, ap negsuc (pred_same a b r.1))

is_odd : (f : Format) (s : Bool) (m : ℕ) (e : ℤ) → T (fits f (fin s (suc m) e)) → suc m % 2 ≡ 1
unfolding fits
is_odd f s m e t =
    eqb→eq (suc m % 2) 1 (and_l (eqb (suc m % 2) 1) (ltb (suc m) (2 ^ prec f)) (and_l (eqb (suc m % 2) 1 && ltb (suc m) (2 ^ prec f)) (leb (down e) (2 ^ low f))
    (and_l (eqb (suc m % 2) 1 && ltb (suc m) (2 ^ prec f) && leb (down e) (2 ^ low f)) (ltb (suc m * up e) (2 ^ suc (emax f) * down e)) t)))

two_up : (p : ℕ) → 0 < p → 2 * p ≡ 1 → ⊥
two_up p h e = omega arith

flat : (e : ℤ) → up e * down e ≡ 1 → e ≡ pos 0
flat (pos zero) h = refl
flat (pos (suc k)) h = absurd (two_up (2 ^ k) (pow_pos k) (sym (pow-succ' 2 k) ∙ sym (mul-one (2 ^ suc k)) ∙ h))
flat (negsuc k) h = absurd (two_up (2 ^ k) (pow_pos k) (sym (pow-succ' 2 k) ∙ sym (one-mul (2 ^ suc k)) ∙ h))

zero_exp : (f : Format) (s : Bool) (e : ℤ) → T (fits f (fin s zero e)) → e ≡ pos 0
unfolding fits
zero_exp f s e t = flat e (eqb→eq (up e * down e) 1 t)

-- m / p = a / c and n / q = a / c
cross : (m p n q a c : ℕ) → 0 < c → m * c ≡ a * p → n * c ≡ a * q → m * q ≡ n * p
cross m p n q a c C h k =
    eq_of_mul-eq-mul_right c C (m * q) (n * p)
    (mul_right_comm m q c ∙ ap (λ (x : ℕ). x * q) h ∙ mul_right_comm a p q ∙ ap (λ (x : ℕ). x * p) (sym k) ∙ mul_right_comm n c p)

not_zero : (m : ℕ) (e d : ℤ) → suc m * up e * down d ≡ zero * up d * down e → ⊥
not_zero m e d h = lt_irrefl 0 (subst (λ (x : ℕ). 0 < x) (h ∙ ap (λ (x : ℕ). x * down e) (zero-mul (up d)) ∙ zero-mul (down e)) (mul-pos (mul-pos (zero-lt-suc m) (up_pos e)) (down_pos d)))

pub value_only : (f : Format) (x y : Float) (s : Bool) (a c : ℕ) → 0 < c → T (fits f x) → T (fits f y) → HasValue x s a c → HasValue y s a c → x ≡ y
value_only f nan y s a c C p q v w = absurd v
value_only f (inf _) y s a c C p q v w = absurd v
value_only f (fin t zero e) nan s a c C p q v w = absurd w
value_only f (fin t zero e) (inf _) s a c C p q v w = absurd w
value_only f (fin t (suc m) e) nan s a c C p q v w = absurd w
value_only f (fin t (suc m) e) (inf _) s a c C p q v w = absurd w
value_only f (fin t zero e) (fin u zero g) s a c C p q v w = λ i. fin ((v.0 ∙ sym w.0) i) zero ((zero_exp f t e p ∙ sym (zero_exp f u g q)) i)
value_only f (fin t zero e) (fin u (suc n) g) s a c C p q v w = absurd (not_zero n g e (sym (cross (zero * up e) (down e) (suc n * up g) (down g) a c C v.1 w.1)))
value_only f (fin t (suc m) e) (fin u zero g) s a c C p q v w = absurd (not_zero m e g (cross (suc m * up e) (down e) (zero * up g) (down g) a c C v.1 w.1))
value_only f (fin t (suc m) e) (fin u (suc n) g) s a c C p q v w =
    let r = same_odd (suc m) (suc n) e g (is_odd f t m e p) (is_odd f u n g q) (cross (suc m * up e) (down e) (suc n * up g) (down g) a c C v.1 w.1) in
    λ i. fin ((v.0 ∙ sym w.0) i) (r.0 i) (r.1 i)

-- ---- `exactly`

pub exactly_value : (z : ℤ) (l : ℕ) → HasValue (exactly z l) (is_neg z) (nat_abs z) (2 ^ l)
unfolding exactly is_neg
exactly_value (pos n) l = subst (λ (x : ℕ). HasValue (odd 53 false n 0 l) false x (2 ^ l)) (mul-one n) (odd_sign 53 false n 0 l)
exactly_value (negsuc n) l = subst (λ (x : ℕ). HasValue (odd 53 true (suc n) 0 l) true x (2 ^ l)) (mul-one (suc n)) (odd_sign 53 true (suc n) 0 l)

shifted_le : (a b c : ℕ) → b ≤ a → b + c ≤ a + c
shifted_le a b c h = omega arith

shifted_lt : (a b c : ℕ) → a < b → a + c < b + c
shifted_lt a b c h = omega arith

same_gap : (a b c : ℕ) → a + c - (b + c) ≡ a - b
same_gap a b c = omega arith

same_gap_suc : (a b c : ℕ) → b + c - suc (a + c) ≡ b - suc a
same_gap_suc a b c = omega arith

-- the two tests agree, and so do what they pick
pick : (X : Type 0) (t u : Bool) (x y x' y' : X) → t ≡ u → (T u → x ≡ x') → (T (not u) → y ≡ y') → cond t x y ≡ cond u x' y'
pick X t true x y x' y' e h k = ap (λ (b : Bool). cond b x y) e ∙ h tt
pick X t false x y x' y' e h k = ap (λ (b : Bool). cond b x y) e ∙ k tt

leb_shift : (a b c : ℕ) → leb (b + c) (a + c) ≡ leb b a
leb_shift a b c = go (leb b a) refl
  where
    go : (t : Bool) → leb b a ≡ t → leb (b + c) (a + c) ≡ leb b a
    go true h = le-leb (b + c) (a + c) (shifted_le a b c (leb-true b a h)) ∙ sym h
    go false h = lt-leb (b + c) (a + c) (shifted_lt a b c (leb-false b a h)) ∙ sym h

minus_shift : (a b c : ℕ) → minus (a + c) (b + c) ≡ minus a b
minus_shift a b c =
    pick ℤ (leb (b + c) (a + c)) (leb b a) (pos (a + c - (b + c))) (negsuc (b + c - suc (a + c))) (pos (a - b)) (negsuc (b - suc a))
    (leb_shift a b c) (λ h. ap pos (same_gap a b c)) (λ h. ap negsuc (same_gap_suc a b c))

odd_shift : (d : ℕ) (s : Bool) (q k l c : ℕ) → odd d s q (k + c) (l + c) ≡ odd d s q k l
unfolding odd
odd_shift d s zero k l c = refl
odd_shift d s (suc q) k l c =
    let t = count_trailing_zeros d (suc q) in
    ap (λ (x : ℕ). fin s (suc q / 2 ^ t) (minus x (l + c))) (add_right_comm k c t) ∙ ap (λ (e : ℤ). fin s (suc q / 2 ^ t) e) (minus_shift (k + t) l c)

up_to : (l : ℕ) → l ≤ 1074 → l + (1074 - l) ≡ 1074
up_to l h = omega arith

room : (l : ℕ) → 53 + (1074 - l) ≤ 2098
room l = omega arith

placed : (s : Bool) (q l : ℕ) → q < 2 ^ 53 → l ≤ 1074 → T (fits binary64 (odd 53 s q 0 l))
placed s q l h k =
    subst (λ (x : Float). T (fits binary64 x))
    (ap (λ (x : ℕ). odd 53 s q (1074 - l) x) (sym (up_to l k)) ∙ ap (λ (x : ℕ). odd 53 s q x (l + (1074 - l))) (sym (zero-add (1074 - l))) ∙ odd_shift 53 s q 0 l (1074 - l))
    (odd-fits binary64 53 s q (1074 - l) h (le_of_lt h) (lt_of_lt_of_le (shl_lt 53 (1074 - l) h) (pow_mono (room l))))

pub exactly_fits : (z : ℤ) (l : ℕ) → nat_abs z < 2 ^ 53 → l ≤ 1074 → T (fits binary64 (exactly z l))
unfolding exactly
exactly_fits (pos n) l h k = placed false n l h k
exactly_fits (negsuc n) l h k = placed true (suc n) l h k

-- an f64 whose value is z / 2 ^ l is `exactly z l`
pub exactly_only : (x : Float) (z : ℤ) (l : ℕ) → nat_abs z < 2 ^ 53 → l ≤ 1074 → T (fits binary64 x) → HasValue x (is_neg z) (nat_abs z) (2 ^ l) → x ≡ exactly z l
exactly_only x z l h k p v = value_only binary64 x (exactly z l) (is_neg z) (nat_abs z) (2 ^ l) (pow_pos l) p (exactly_fits z l h k) v (exactly_value z l)

-- ---- the cast

cast_value : (z : ℤ) → nat_abs z < 2 ^ 53 → HasValue (of_int binary64 z) (is_neg z) (nat_abs z) 1
unfolding of_int is_neg
cast_value (pos n) h = round_whole binary64 false n (le_of_lt h)
cast_value (negsuc n) h = round_whole binary64 true (suc n) (le_of_lt h)

pub cast_exact : (z : ℤ) → nat_abs z < 2 ^ 53 → of_int binary64 z ≡ exactly z 0
cast_exact z h = exactly_only (of_int binary64 z) z 0 h (lit≤ tt) (of_int-fits binary64 z) (cast_value z h)

-- ---- the sum

ltb_scale : (a b c : ℕ) → 0 < c → ltb (a * c) (b * c) ≡ ltb a b
ltb_scale a b c C = go (ltb a b) refl
  where
    go : (t : Bool) → ltb a b ≡ t → ltb (a * c) (b * c) ≡ ltb a b
    go true h = lt-ltb (a * c) (b * c) (mul-lt-mul_of_pos_right (ltb-true a b h) C) ∙ sym h
    go false h = le-ltb (a * c) (b * c) (mul-le-mul_right c (ltb-false a b h)) ∙ sym h

sub_mul : (a b c : ℕ) → (a - b) * c ≡ a * c - b * c
sub_mul a b c = mul_comm (a - b) c ∙ mul-sub c a b ∙ ap (λ (x : ℕ). x - c * b) (mul_comm c a) ∙ ap (λ (x : ℕ). a * c - x) (mul_comm c b)

-- c times a number over c is the number over 1
over : (f : Format) (s : Bool) (x a c : ℕ) → 0 < c → x ≡ a * c → round f s x c ≡ round f s a 1
over f s x a c C h = round_same f s x c a 1 C (zero-lt-suc 0) (mul-one x ∙ h)

sum_scale : (f : Format) (s : Bool) (a : ℕ) (t : Bool) (b c : ℕ) → 0 < c → sum f s (a * c) t (b * c) c ≡ sum f s a t b 1
unfolding sum
sum_scale f s a t b c C =
    pick Float (beq s t) (beq s t)
    (round f s (a * c + b * c) c)
    (cond (ltb (a * c) (b * c)) (round f t (b * c - a * c) c) (round f (s && ltb (b * c) (a * c)) (a * c - b * c) c))
    (round f s (a + b) 1)
    (cond (ltb a b) (round f t (b - a) 1) (round f (s && ltb b a) (a - b) 1))
    refl
    (λ h. over f s (a * c + b * c) (a + b) c C (sym (add-mul a b c)))
    (λ h. pick Float (ltb (a * c) (b * c)) (ltb a b)
    (round f t (b * c - a * c) c) (round f (s && ltb (b * c) (a * c)) (a * c - b * c) c)
    (round f t (b - a) 1) (round f (s && ltb b a) (a - b) 1)
    (ltb_scale a b c C)
    (λ k. over f t (b * c - a * c) (b - a) c C (sym (sub_mul b a c)))
    (λ k. ap (λ (u : Bool). round f (s && u) (a * c - b * c) c) (ltb_scale b a c C) ∙ over f (s && ltb b a) (a * c - b * c) (a - b) c C (sym (sub_mul a b c))))

add_at : (f : Format) (x y : Float) (s t : Bool) (a b : ℕ) → HasValue x s a 1 → HasValue y t b 1 → add f x y ≡ sum f s a t b 1
unfolding add
add_at f nan y s t a b v w = absurd v
add_at f (inf _) y s t a b v w = absurd v
add_at f (fin s' m e) nan s t a b v w = absurd w
add_at f (fin s' m e) (inf _) s t a b v w = absurd w
add_at f (fin s' m e) (fin t' n d) s t a b v w =
    let c = down e * down d in
    let h : m * up e * down d ≡ a * c = ap (λ (x : ℕ). x * down d) (sym (mul-one (m * up e)) ∙ v.1) ∙ mul_assoc a (down e) (down d) in
    let k : n * up d * down e ≡ b * c = ap (λ (x : ℕ). x * down e) (sym (mul-one (n * up d)) ∙ w.1) ∙ mul_assoc b (down d) (down e) ∙ ap (λ (x : ℕ). b * x) (mul_comm (down d) (down e)) in
    ap (λ (x : ℕ). sum f s' x t' (n * up d * down e) c) h
    ∙ ap (λ (x : ℕ). sum f s' (a * c) t' x c) k
    ∙ ap (λ (x : Bool). sum f x (a * c) t' (b * c) c) v.0
    ∙ ap (λ (x : Bool). sum f s (a * c) x (b * c) c) w.0
    ∙ sum_scale f s a t b c (mul-pos (down_pos e) (down_pos d))

less_one : (m n : ℕ) → m < n → n - m ≡ suc (n - suc m)
less_one m n h = omega arith

two_sucs : (m n : ℕ) → suc m + suc n ≡ suc (suc (m + n))
two_sucs m n = omega arith

no_gap : (m n : ℕ) → n ≤ m → m ≤ n → m - n ≡ n - m
no_gap m n h k = omega arith

-- the sum of two integers, from their signs and sizes
int_sum : (f : Format) (a b : ℤ) → sum f (is_neg a) (nat_abs a) (is_neg b) (nat_abs b) 1 ≡ of_int f (a +ℤ b)
unfolding sum of_int is_neg
int_sum f (pos m) (pos n) = refl
int_sum f (negsuc m) (negsuc n) = ap (λ (x : ℕ). round f true x 1) (two_sucs m n)
int_sum f (pos m) (negsuc n) = go (ltb m (suc n)) (ltb→lt m (suc n))
  where
    go : (t : Bool) → (T t → m < suc n) → cond t (round f true (suc n - m) 1) (round f false (m - suc n) 1) ≡ of_int f (cond t (negsuc (suc n - suc m)) (pos (m - suc n)))
    go true h = ap (λ (x : ℕ). round f true x 1) (less_one m (suc n) (h tt))
    go false h = refl
int_sum f (negsuc m) (pos n) = go (ltb (suc m) n) (ltb n (suc m)) (ltb→lt (suc m) n) (nltb→le (suc m) n) (ltb→lt n (suc m)) (nltb→le n (suc m))
  where
    go : (t u : Bool) → (T t → suc m < n) → (T (not t) → n ≤ suc m) → (T u → n < suc m) → (T (not u) → suc m ≤ n)
        → cond t (round f false (n - suc m) 1) (round f (true && u) (suc m - n) 1) ≡ of_int f (cond u (negsuc (suc m - suc n)) (pos (n - suc m)))
    go true true h h' k k' = absurd (lt_irrefl n (lt_trans (k tt) (h tt)))
    go true false h h' k k' = refl
    go false true h h' k k' = ap (λ (x : ℕ). round f true x 1) (less_one n (suc m) (k tt))
    go false false h h' k k' = ap (λ (x : ℕ). round f false x 1) (no_gap (suc m) n (h' tt) (k' tt))

abs_sum : (a b : ℤ) (k : ℕ) → nat_abs a + nat_abs b < k → nat_abs (a +ℤ b) < k
abs_sum (pos m) (pos n) k h = h
abs_sum (negsuc m) (negsuc n) k h = omega arith
abs_sum (pos m) (negsuc n) k h = go (ltb m (suc n))
  where
    go : (t : Bool) → nat_abs (cond t (negsuc (suc n - suc m)) (pos (m - suc n))) < k
    go true = omega arith
    go false = omega arith
abs_sum (negsuc m) (pos n) k h = go (ltb n (suc m))
  where
    go : (t : Bool) → nat_abs (cond t (negsuc (suc m - suc n)) (pos (n - suc m))) < k
    go true = omega arith
    go false = omega arith

pub sum_exact : (a b : ℤ) → nat_abs a + nat_abs b < 2 ^ 53 → add binary64 (exactly a 0) (exactly b 0) ≡ exactly (a +ℤ b) 0
sum_exact a b h =
    add_at binary64 (exactly a 0) (exactly b 0) (is_neg a) (is_neg b) (nat_abs a) (nat_abs b) (exactly_value a 0) (exactly_value b 0)
    ∙ int_sum binary64 a b
    ∙ cast_exact (a +ℤ b) (abs_sum a b (2 ^ 53) h)

-- ---- the halving

beq_false : (s : Bool) → unlike s false ≡ s
beq_false true = refl
beq_false false = refl

-- 0.5
pub one_half : of_bits binary64 0x3fe0_0000_0000_0000 ≡ fin false 1 (negsuc 0)
unfolding of_bits
one_half = refl

halved : (f : Format) (x : Float) (s : Bool) (a : ℕ) → HasValue x s a 1 → mul f x (fin false 1 (negsuc 0)) ≡ round f s a 2
unfolding mul
halved f nan s a v = absurd v
halved f (inf _) s a v = absurd v
halved f (fin t m e) s a v =
    ap (λ (u : Bool). round f u (m * up e * 1) (down e * 2)) (beq_false t ∙ v.0)
    ∙ round_same f s (m * up e * 1) (down e * 2) a 2 (mul-pos (down_pos e) (zero-lt-suc 1)) (zero-lt-suc 1) (ap (λ (x : ℕ). x * 2) v.1 ∙ mul_assoc a (down e) 2)

half_value : (s : Bool) (a : ℕ) → a < 2 ^ 53 → HasValue (round binary64 s a 2) s a 2
half_value s a h =
    round_exact binary64 s a 2 a 1073 (zero-lt-suc 1) h
    (lt_of_lt_of_le (shl_lt 53 1073 h) (pow_mono {i = 53 + 1073} {j = 1074 + 1024} (lit≤ tt)))
    (ap (λ (x : ℕ). a * x) (pow-suc 2 1073) ∙ sym (mul_assoc a (2 ^ 1073) 2))

pub half_exact : (z : ℤ) → nat_abs z < 2 ^ 53 → mul binary64 (exactly z 0) (of_bits binary64 0x3fe0_0000_0000_0000) ≡ exactly z 1
half_exact z h =
    ap (λ (x : Float). mul binary64 (exactly z 0) x) one_half
    ∙ exactly_only (mul binary64 (exactly z 0) (fin false 1 (negsuc 0))) z 1 h (lit≤ tt)
    (mul-fits binary64 (exactly z 0) (fin false 1 (negsuc 0)))
    (subst (λ (x : Float). HasValue x (is_neg z) (nat_abs z) 2) (sym (halved binary64 (exactly z 0) (is_neg z) (nat_abs z) (exactly_value z 0))) (half_value (is_neg z) (nat_abs z) h))

-- ---- for an i32

pub i32_size : {z : ℤ} → SFits w32 z → nat_abs z ≤ 2 ^ 31
i32_size {z} h = nat_abs-le z h.sfits

pub i32_exact : {z : ℤ} → SFits w32 z → of_int binary64 (to_z w32 (of_z w32 z)) ≡ exactly z 0
i32_exact {z} h = ap (of_int binary64) (to_z-of_z h) ∙ cast_exact z (lt_of_le_of_lt (i32_size h) (lit< tt))

-- half of the sum of two, each cast
pub i32_middle : {a b : ℤ} → SFits w32 a → SFits w32 b
    → mul binary64 (add binary64 (exactly a 0) (exactly b 0)) (of_bits binary64 0x3fe0_0000_0000_0000) ≡ exactly (a +ℤ b) 1
i32_middle {a} {b} h k =
    let small : nat_abs a + nat_abs b < 2 ^ 53 = lt_of_le_of_lt (add-le-add (i32_size h) (i32_size k)) (lit< tt) in
    ap (λ (x : Float). mul binary64 x (of_bits binary64 0x3fe0_0000_0000_0000)) (sum_exact a b small)
    ∙ half_exact (a +ℤ b) (abs_sum a b (2 ^ 53) small)
