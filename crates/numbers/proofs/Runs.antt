-- Reading from the left agrees with the definition by the last column.
-- Assumes nothing.
use mathlib.Core.Path.{◌≡◌, refl, sym, ◌∙◌, ap, ap₂}
use mathlib.Core.List.{List}
use mathlib.Core.Bool.{Bool, true, false, not, ◌&&◌, ◌||◌}
use Prim.Native.Nat.{ℕ, zero, suc, ◌+◌, ◌-◌, ◌*◌, ◌/◌, ◌%◌, ◌^◌, ◌≤◌, ◌<◌}
use native.Mathlib.Numerals.{add-one}
use native.Mathlib.Nat.{mul_comm, mul_assoc, add-zero, add-suc, one-le-pow, pow-suc, pow-le-pow_right}
use native.Mathlib.Omega.{arith}
use lib.ListN.{get_or}
use lib.Dec.{eqb, lit<}
use borrow.Author.Tests.{eq-eqb, ne_eqb, eqb-true, lt-ltb}
use Rattle.ascii.specs.Tests.{same, between, pick, both, is_digit}
use Rattle.columns.specs.Columns.{first_of, blank_at, gap_of}
use Rattle.ascii.proofs.Choice.{picks, both_split}
use Rattle.numbers.specs.declared.Number.{Number}
use Rattle.numbers.specs.declared.Scan.{Scan}
use Rattle.std.specs.Prelude.{Option, Some, None}
use Rattle.numbers.specs.declared.Decimal.{Decimal}
use Rattle.numbers.specs.Number.{given, none, ends_digit, lead_of, further_of, grown_of, number_of}
use Rattle.ascii.proofs.Bools.{and_both, not_pick}
use Rattle.numbers.specs.Runs.{value_of, dec_of, step_of, scan_of, taken_of, decimals_of, made_of}
use Rattle.numbers.proofs.Steps.{digit_low, digit_high, down}

-- ---- digits in four bits
pub value_small : (b : ℕ) → value_of b < 10
unfolding value_of
value_small b = picks (λ x. x < 10) (is_digit b) _ _ (λ d. omega (arith, digit_high b d, digit_low b d)) (λ _. lit< tt)

pub value_digit : (b : ℕ) → is_digit b ≡ true → value_of b ≡ b - 48
unfolding value_of
value_digit b d = rw d

pub value_none : (b : ℕ) → is_digit b ≡ false → value_of b ≡ 0
unfolding value_of
value_none b d = rw d

pub dec_step : (p v n : ℕ) → v < 10 → dec_of (16 * p + v) (suc n) ≡ 10 * dec_of p n + v
unfolding dec_of
dec_step p v n h =
    let q : (16 * p + v) / 16 ≡ p = omega arith in
    let r : (16 * p + v) % 16 ≡ v = omega arith in
    rw (q, r)

pub dec_none : (w n : ℕ) → n ≡ 0 → 0 ≡ dec_of w n
unfolding dec_of
dec_none w n z = rw z

pub dec_some : (w n : ℕ) → (n ≡ 0 → ⊥) → (h r : ℕ) → h ≡ dec_of (w / 16) (n - 1) → r ≡ 10 * h + w % 16 → r ≡ dec_of w n
unfolding dec_of
dec_some w n z h r e q = rw (down n z) (q ∙ ap (λ x. 10 * x + w % 16) e)

pub dec_below : (w n : ℕ) → dec_of w n ≤ 2 * 10 ^ n - 2
unfolding dec_of
dec_below w zero = omega arith
dec_below w (suc n) = rw pow-suc (omega (arith, dec_below (w / 16) n, one-le-pow n 10 (lit< tt)))

-- ---- one column
blank_step : (l : List ℕ) (at n : ℕ) (t : Bool) → t ≡ eqb (gap_of l at n) 0 → both t (eqb (get_or l (at + n) 0) 32) ≡ eqb (gap_of l at (suc n)) 0
unfolding both gap_of first_of blank_at
blank_step l at n t e = rw e (go (gap_of l at n) (eqb (get_or l (at + n) 0) 32))
  where
    go : (g : ℕ) (x : Bool) → pick (eqb g 0) x false ≡ eqb (first_of g (pick x 0 (at + n + 1))) 0
    go zero true = refl
    go zero false = sym (ne_eqb (at + n + 1) 0 (λ (q : at + n + 1 ≡ 0). omega arith))
    go (suc g) x = rw (ne_eqb (suc g) 0 (λ (q : suc g ≡ 0). omega arith))

no_minus : (b : ℕ) → is_digit b ≡ true → eqb b 45 ≡ false
no_minus b d = ne_eqb b 45 (λ (q : b ≡ 45). omega (arith, digit_low b d))

not_both : (x : ℕ) → eqb x 32 ≡ true → eqb x 45 ≡ false
not_both x e = let h : x ≡ 32 = eqb-true x 32 e in ne_eqb x 45 (λ (q : x ≡ 45). omega arith)

lead_step : (l : List ℕ) (at n b : ℕ) (t m : Bool) → t ≡ eqb (gap_of l at n) 0 → (t ≡ true → m ≡ false) → lead_of l at (suc n) b ≡ made_of (both t (pick (eqb (get_or l (at + n) 0) 32) true (eqb (get_or l (at + n) 0) 45))) (pick (eqb (get_or l (at + n) 0) 45) true m) (b - 48)
unfolding lead_of made_of both
lead_step l at n b t m e f = rw (sym e) (go t m (eqb (get_or l (at + n) 0) 32) (eqb (get_or l (at + n) 0) 45) f (not_both (get_or l (at + n) 0)))
  where
    go : (t m x y : Bool) → (t ≡ true → m ≡ false) → (x ≡ true → y ≡ false) → pick t (pick x (record { good = true; minus = false; mag = b - 48 }) (pick y (record { good = true; minus = true; mag = b - 48 }) none)) none ≡ pick (pick t (pick x true y) false) (record { good = true; minus = pick y true m; mag = b - 48 }) none
    go false m x y f g = refl
    go true m true y f g = rw (g refl, f refl)
    go true m false true f g = refl
    go true m false false f g = refl

num_step : (d ends g m o y : Bool) (b D c v : ℕ) → (d ≡ true → y ≡ false) → (d ≡ true → v ≡ b - 48) → (o ≡ true → D ≡ 0) → eqb D 0 ≡ eqb c 0 → pick d (pick ends (grown_of (made_of g m D) b) (made_of o m (b - 48))) none ≡ made_of (both d (pick ends (both g (pick (eqb c 0) false true)) o)) (pick y true m) (10 * D + v)
unfolding grown_of further_of made_of both
num_step false ends g m o y b D c v f k z e = refl
num_step true true false m o y b D c v f k z e = refl
num_step true true true m o y b D c v f k z e = rw (e, f refl, k refl) (go (eqb c 0))
  where
    go : (t : Bool) → pick t none (record { good = true; minus = m; mag = 10 * D + (b - 48) }) ≡ pick (pick t false true) (record { good = true; minus = m; mag = 10 * D + (b - 48) }) none
    go true = refl
    go false = refl
num_step true false g m true y b D c v f k z e = let q : 10 * D + v ≡ b - 48 = omega (arith, z refl, k refl) in rw (f refl, q)
num_step true false g m false y b D c v f k z e = refl

eqb_same : (x y : ℕ) → (x ≡ 0 → y ≡ 0) → (y ≡ 0 → x ≡ 0) → eqb x 0 ≡ eqb y 0
eqb_same zero y f g = sym (eq-eqb y 0 (f refl))
eqb_same (suc x) y f g = ne_eqb (suc x) 0 (λ (q : suc x ≡ 0). omega arith) ∙ sym (ne_eqb y 0 (λ (q : y ≡ 0). omega (arith, g q)))

-- ---- n columns
record Known (l : List ℕ) (at n : ℕ) (s : Scan) : Type 0 where
  all_blank : s.blank ≡ eqb (gap_of l at n) 0
  clear : s.blank ≡ true → s.minus ≡ false
  blank_zero : s.blank ≡ true → s.code ≡ 0
  before : (b : ℕ) → lead_of l at n b ≡ made_of s.lead s.minus (b - 48)
  lead_zero : s.lead ≡ true → s.code ≡ 0
  last : ends_digit l at n ≡ s.ends
  same_zero : eqb (dec_of s.code n) 0 ≡ eqb s.code 0
  number : number_of l at n 0 ≡ made_of s.good s.minus (dec_of s.code n)

known_zero : (l : List ℕ) (at : ℕ) → Known l at 0 (scan_of l at 0)
unfolding scan_of gap_of lead_of ends_digit dec_of number_of made_of
known_zero l at =
    record {
      all_blank = refl;
      clear = λ _. refl;
      blank_zero = λ _. refl;
      before = λ b. refl;
      lead_zero = λ _. refl;
      last = refl;
      same_zero = refl;
      number = refl;
    }

low : (b : ℕ) → b < 48 → is_digit b ≡ false
unfolding between
low b h = rw (lt-ltb b 48 h)

value_blank : (b : ℕ) → b < 48 → value_of b ≡ 0
value_blank b h = value_none b (low b h)

clear_step : (t m : Bool) (b : ℕ) → (t ≡ true → m ≡ false) → both t (eqb b 32) ≡ true → pick (eqb b 45) true m ≡ false
clear_step t m b f e = let p : t ≡ true = (both_split t (eqb b 32) e).0 in let q : eqb b 32 ≡ true = (both_split t (eqb b 32) e).1 in rw (not_both b q) (f p)

code_step : (t : Bool) (c b : ℕ) (x : Bool) → (t ≡ true → c ≡ 0) → (x ≡ true → value_of b ≡ 0) → both t x ≡ true → 16 * c + value_of b ≡ 0
code_step t c b x f g e = let p : c ≡ 0 = f (both_split t x e).0 in let q : value_of b ≡ 0 = g (both_split t x e).1 in omega arith

number_step : (l : List ℕ) (at n : ℕ) (s : Scan) → Known l at n s → number_of l at (suc n) 0 ≡ made_of (both (is_digit (get_or l (at + n) 0)) (pick s.ends (both s.good (pick (eqb s.code 0) false true)) s.lead)) (pick (eqb (get_or l (at + n) 0) 45) true s.minus) (dec_of (16 * s.code + value_of (get_or l (at + n) 0)) (suc n))
unfolding number_of
number_step l at n s k =
    rw (dec_step s.code (value_of (get_or l (at + n) 0)) n (value_small _), k.last, k.number, k.before (get_or l (at + n) 0))
    (num_step (is_digit (get_or l (at + n) 0)) s.ends s.good s.minus s.lead (eqb (get_or l (at + n) 0) 45) (get_or l (at + n) 0) (dec_of s.code n) s.code (value_of (get_or l (at + n) 0))
    (no_minus _) (value_digit _) (λ e. eqb-true (dec_of s.code n) 0 (k.same_zero ∙ eq-eqb s.code 0 (k.lead_zero e))) k.same_zero)

zero_of : (b : ℕ) (t : Bool) → t ≡ pick (eqb b 32) true (eqb b 45) → t ≡ true → value_of b ≡ 0
zero_of b t e f = value_blank b (go (eqb b 32) refl (sym e ∙ f))
  where
    go : (x : Bool) → eqb b 32 ≡ x → pick x true (eqb b 45) ≡ true → b < 48
    go true p q = omega (arith, eqb-true b 32 p)
    go false p q = omega (arith, eqb-true b 45 q)

same_step : (c v n : ℕ) → v < 10 → eqb (dec_of c n) 0 ≡ eqb c 0 → eqb (dec_of (16 * c + v) (suc n)) 0 ≡ eqb (16 * c + v) 0
same_step c v n h e = rw (dec_step c v n h) (eqb_same (10 * dec_of c n + v) (16 * c + v)
    (λ (q : 10 * dec_of c n + v ≡ 0). let d : dec_of c n ≡ 0 = omega arith in let z : c ≡ 0 = eqb-true c 0 (sym e ∙ eq-eqb (dec_of c n) 0 d) in omega arith)
    (λ (q : 16 * c + v ≡ 0). let d : c ≡ 0 = omega arith in let z : dec_of c n ≡ 0 = eqb-true (dec_of c n) 0 (e ∙ eq-eqb c 0 d) in omega arith))

known_suc : (l : List ℕ) (at n : ℕ) (s : Scan) → Known l at n s → Known l at (suc n) (step_of s (get_or l (at + n) 0))
unfolding step_of ends_digit number_of
known_suc l at n s k =
    let b : ℕ = get_or l (at + n) 0 in
    record {
      all_blank = blank_step l at n s.blank k.all_blank;
      clear = λ e. clear_step s.blank s.minus b k.clear e;
      blank_zero = λ e. code_step s.blank s.code b (eqb b 32) k.blank_zero (λ f. zero_of b true (rw f) refl) e;
      before = λ x. lead_step l at n x s.blank s.minus k.all_blank k.clear;
      lead_zero = λ e. code_step s.blank s.code b (pick (eqb b 32) true (eqb b 45)) k.blank_zero (λ f. zero_of b true (sym f) refl) e;
      last = refl;
      same_zero = same_step s.code (value_of b) n (value_small b) k.same_zero;
      number = number_step l at n s k;
    }

known : (l : List ℕ) (at n : ℕ) → Known l at n (scan_of l at n)
unfolding scan_of
known l at zero = known_zero l at
known l at (suc n) = known_suc l at n (scan_of l at n) (known l at n)

-- ---- bounds
pub code_below : (l : List ℕ) (at n : ℕ) → (scan_of l at n).code < 16 ^ n
unfolding scan_of step_of
code_below l at zero = lit< tt
code_below l at (suc n) = rw pow-suc (omega (arith, code_below l at n, value_small (get_or l (at + n) 0)))

pub mag_below : (l : List ℕ) (at k : ℕ) (h : Number) (n : ℕ) → h.mag < 16 ^ k → (decimals_of l at h n).mag < 16 ^ (k + n)
unfolding decimals_of taken_of
mag_below l at k h zero b = rw add-zero b
mag_below l at k h (suc n) b = rw (add-suc, pow-suc) (omega (arith, mag_below l at k h n b, value_small (get_or l (at + n) 0)))

pub scan_below : (l : List ℕ) (at n : ℕ) (s : Scan) → s ≡ scan_of l at n → s.code < 16 ^ n
scan_below l at n s e = rw e (code_below l at n)

pub scan_small : (l : List ℕ) (at n i : ℕ) (s : Scan) → s ≡ scan_of l at i → i < n → n ≤ 8 → s.code ≤ 4294967296
scan_small l at n i s e a b =
    let j : i ≤ 8 = omega arith in
    let p : 16 ^ i ≤ 16 ^ 8 = pow-le-pow_right (lit< tt) j in
    omega (arith, scan_below l at i s e)

pub tail_small : (l : List ℕ) (at n k i : ℕ) (h t : Number) → t ≡ decimals_of l at h i → h.mag < 16 ^ k → i < n → n + k ≤ 8 → t.mag ≤ 4294967296
tail_small l at n k i h t e m a b =
    let j : k + i ≤ 8 = omega arith in
    let p : 16 ^ (k + i) ≤ 16 ^ 8 = pow-le-pow_right (lit< tt) j in
    rw e (omega (arith, mag_below l at k h i m))

-- ---- loops
pub scan_start : (l : List ℕ) (at : ℕ) → record { blank = true; lead = true; minus = false; ends = false; good = false; code = 0 } ≡ scan_of l at 0
unfolding scan_of
scan_start l at = refl

pub scan_next : (l : List ℕ) (at i : ℕ) (s r : Scan) → s ≡ scan_of l at i → r ≡ step_of s (get_or l (at + i) 0) → r ≡ scan_of l at (i + 1)
unfolding scan_of
scan_next l at i s r e q = rw add-one (q ∙ ap (λ x. step_of x (get_or l (at + i) 0)) e)

pub scan_end : (l : List ℕ) (at n i : ℕ) (s : Scan) → i ≤ n → n ≤ i → s ≡ scan_of l at i → s ≡ scan_of l at n
scan_end l at n i s a b e = let q : i ≡ n = omega arith in e ∙ ap (scan_of l at) q

pub tail_start : (l : List ℕ) (at : ℕ) (h : Number) → h ≡ decimals_of l at h 0
unfolding decimals_of
tail_start l at h = refl

pub tail_next : (l : List ℕ) (at i : ℕ) (h t r : Number) → t ≡ decimals_of l at h i → r ≡ taken_of t (get_or l (at + i) 0) → r ≡ decimals_of l at h (i + 1)
unfolding decimals_of
tail_next l at i h t r e q = rw add-one (q ∙ ap (λ x. taken_of x (get_or l (at + i) 0)) e)

pub tail_end : (l : List ℕ) (at n i : ℕ) (h t : Number) → i ≤ n → n ≤ i → t ≡ decimals_of l at h i → t ≡ decimals_of l at h n
tail_end l at n i h t a b e = let q : i ≡ n = omega arith in e ∙ ap (decimals_of l at h) q

-- ---- the point and the decimals
point_step : (y g m : Bool) (D : ℕ) → pick y (made_of g m D) none ≡ made_of (both g y) m D
unfolding made_of both
point_step true true m D = refl
point_step true false m D = refl
point_step false true m D = refl
point_step false false m D = refl

take_step : (d g m : Bool) (b D v : ℕ) → (d ≡ true → v ≡ b - 48) → pick d (further_of (made_of g m D) b) none ≡ made_of (both g d) m (10 * D + v)
unfolding made_of both further_of
take_step true true m b D v e = rw (e refl)
take_step true false m b D v e = refl
take_step false true m b D v e = refl
take_step false false m b D v e = refl

abbrev pointed : List ℕ → ℕ → ℕ → Number
pointed l at w = record { good = both (scan_of l at w).good (eqb (get_or l (at + w) 0) 46); minus = (scan_of l at w).minus; mag = (scan_of l at w).code }

taken_step : (l : List ℕ) (at : ℕ) (h : Number) (b m k : ℕ) (q : Number) → q ≡ made_of h.good h.minus (dec_of h.mag m) → pick (is_digit b) (further_of q b) none ≡ made_of (taken_of h b).good (taken_of h b).minus (dec_of (taken_of h b).mag (suc m))
unfolding taken_of
taken_step l at h b m k q e = rw (e, dec_step h.mag (value_of b) m (value_small b)) (take_step (is_digit b) h.good h.minus b (dec_of h.mag m) (value_of b) (value_digit b))

decimals : (l : List ℕ) (at w k m : ℕ) → m ≡ w + k → number_of l at (suc m) (suc k) ≡ made_of (decimals_of l (at + w + 1) (pointed l at w) k).good (decimals_of l (at + w + 1) (pointed l at w) k).minus (dec_of (decimals_of l (at + w + 1) (pointed l at w) k).mag m)
unfolding decimals_of number_of
decimals l at w zero m e =
    let q : m ≡ w = omega arith in
    rw (q, (known l at w).number) (point_step (eqb (get_or l (at + w) 0) 46) (scan_of l at w).good (scan_of l at w).minus (dec_of (scan_of l at w).code w))
decimals l at w (suc k) zero e = absurd (omega arith)
decimals l at w (suc k) (suc m) e =
    let q : m ≡ w + k = omega arith in
    let i : at + suc m ≡ at + w + 1 + k = omega arith in
    rw i (taken_step l at (decimals_of l (at + w + 1) (pointed l at w) k) (get_or l (at + w + 1 + k) 0) m k (number_of l at (suc m) (suc k)) (decimals l at w k m q))

-- ---- the returns of read_number
num_short : (l : List ℕ) (at n e : ℕ) → n < e → none ≡ number_of l at n e
unfolding number_of further_of
num_short l at zero e h = refl
num_short l at (suc n) zero h = absurd (omega arith)
num_short l at (suc n) (suc zero) h = absurd (omega arith)
num_short l at (suc n) (suc (suc e)) h = let q : n < suc e = omega arith in rw (sym (num_short l at n (suc e) q)) (go (is_digit (get_or l (at + n) 0)))
  where
    go : (t : Bool) → none ≡ pick t none none
    go true = refl
    go false = refl

pub num_absent : (l : List ℕ) (at n e : ℕ) → n < e → None ≡ given (number_of l at n e)
num_absent l at n e h = ap given (num_short l at n e h)

pub num_whole : (l : List ℕ) (at n e : ℕ) (s : Scan) (d : ℕ) (r : Option Decimal) → e ≡ 0 → s ≡ scan_of l at (n - e) → d ≡ dec_of s.code (n - e) → r ≡ given (made_of s.good s.minus d) → r ≡ given (number_of l at n e)
num_whole l at n e s d r z p q f =
    let j : n - e ≡ n = omega arith in
    rw z (f ∙ ap given (rw (q, p, j) (sym (known l at n).number)))

pub num_real : (l : List ℕ) (at n e : ℕ) (s : Scan) (h : Number) (d : ℕ) (r : Option Decimal) → (e ≡ 0 → ⊥) → e ≤ n → s ≡ scan_of l at (n - e) → h ≡ decimals_of l (at + (n - e) + 1) (record { good = (s.good && eqb (get_or l (at + (n - e)) 0) 46); minus = s.minus; mag = s.code }) (e - 1) → d ≡ dec_of h.mag (n - 1) → r ≡ given (made_of h.good h.minus d) → r ≡ given (number_of l at n e)
unfolding same
num_real l at n e s h d r z a p u q f =
    let i : n - 1 ≡ (n - e) + (e - 1) = omega arith in
    let j : n ≡ suc (n - 1) = omega arith in
    let k : e ≡ suc (e - 1) = omega arith in
    let x : number_of l at n e ≡ number_of l at (suc (n - 1)) (suc (e - 1)) = ap₂ (number_of l at) j k in
    f ∙ ap given (rw (q, u, and_both, p) (sym (x ∙ decimals l at (n - e) (e - 1) (n - 1) i)))

-- ---- before and after the point by themselves
-- the same decimals after nothing
abbrev bare : Number → Number
bare h = record { good = h.good; minus = h.minus; mag = 0 }

record Apart (l : List ℕ) (at w : ℕ) (h : Number) (k : ℕ) : Type 0 where
  good_same : (decimals_of l at h k).good ≡ (decimals_of l at (bare h) k).good
  minus_same : (decimals_of l at h k).minus ≡ (decimals_of l at (bare h) k).minus
  sum : dec_of (decimals_of l at h k).mag (w + k) ≡ dec_of h.mag w * 10 ^ k + dec_of (decimals_of l at (bare h) k).mag k

apart : (l : List ℕ) (at w : ℕ) (h : Number) (k : ℕ) → Apart l at w h k
unfolding decimals_of taken_of dec_of
apart l at w h zero = record { good_same = refl; minus_same = refl; sum = rw (add-zero w) (omega arith) }
apart l at w h (suc k) =
    let a = apart l at w h k in
    let b : ℕ = get_or l (at + k) 0 in
    let p : ℕ = (decimals_of l at h k).mag in
    let q : ℕ = (decimals_of l at (bare h) k).mag in
    let x : dec_of (16 * p + value_of b) (w + suc k) ≡ 10 * dec_of p (w + k) + value_of b = rw (add-suc w k) (dec_step p (value_of b) (w + k) (value_small b)) in
    let y : dec_of (16 * q + value_of b) (suc k) ≡ 10 * dec_of q k + value_of b = dec_step q (value_of b) k (value_small b) in
    let z : dec_of h.mag w * 10 ^ suc k ≡ 10 * (dec_of h.mag w * 10 ^ k) = rw (pow-suc, ← mul_assoc (dec_of h.mag w) (10 ^ k) 10) (mul_comm (dec_of h.mag w * 10 ^ k) 10) in
    record {
      good_same = ap (λ (t : Bool). both t (is_digit b)) a.good_same;
      minus_same = a.minus_same;
      sum = x ∙ omega (arith, a.sum, y, z);
    }

-- what is read of the two parts is the number
pub num_parts : (l : List ℕ) (at w d : ℕ) (s : Scan) (h : Number) (x u v : ℕ) (r : Option Decimal)
    → s ≡ scan_of l at w
    → h ≡ decimals_of l (at + w + 1) (record { good = (s.good && eqb (get_or l (at + w) 0) 46); minus = s.minus; mag = 0 }) d
    → x ≡ dec_of s.code w → u ≡ x * 10 ^ d → v ≡ dec_of h.mag d → r ≡ given (made_of h.good h.minus (u + v))
    → r ≡ given (number_of l at (w + 1 + d) (d + 1))
unfolding same
num_parts l at w d s h x u v r p q ex eu ev f =
    let a = apart l (at + w + 1) w (pointed l at w) d in
    let i : w + 1 + d ≡ suc (w + d) = omega arith in
    let j : d + 1 ≡ suc d = omega arith in
    let n = ap₂ (number_of l at) i j ∙ decimals l at w d (w + d) refl in
    f ∙ ap given (rw (eu, ev, ex, q, and_both, p, n, a.good_same, a.minus_same, a.sum))

pub num_long : (l : List ℕ) (at n e : ℕ) (r : Option Decimal) → e ≤ n → 9 < n → n ≤ e + 8 → r ≡ given (number_of l at ((n - e) + 1 + (e - 1)) ((e - 1) + 1)) → r ≡ given (number_of l at n e)
num_long l at n e r a b c f =
    let i : (n - e) + 1 + (e - 1) ≡ n = omega arith in
    let j : (e - 1) + 1 ≡ e = omega arith in
    f ∙ ap given (ap₂ (number_of l at) i j)

-- ---- the small functions
pub value_low : (b : ℕ) (d : Bool) → d ≡ is_digit b → d ≡ true → 48 ≤ b
value_low b d e t = digit_low b (sym e ∙ t)

pub value_yes : (b : ℕ) (d : Bool) → d ≡ is_digit b → d ≡ true → b - 48 ≡ value_of b
value_yes b d e t = sym (value_digit b (sym e ∙ t))

pub value_no : (b : ℕ) (d : Bool) → d ≡ is_digit b → d ≡ false → 0 ≡ value_of b
value_no b d e t = sym (value_none b (sym e ∙ t))

pub value_under : (v b : ℕ) → v ≡ value_of b → v < 10
value_under v b e = rw e (value_small b)

pub made_yes : (g m : Bool) (v : ℕ) → g ≡ true → Some (record { minus = m; mag = v }) ≡ given (made_of g m v)
unfolding made_of
made_yes g m v e = rw e

pub made_no : (g m : Bool) (v : ℕ) → g ≡ false → None ≡ given (made_of g m v)
unfolding made_of
made_no g m v e = rw e

or_pick : (a b : Bool) → (a || b) ≡ pick a true b
or_pick true b = refl
or_pick false b = refl

-- a choice by two guards
by_guards : (t a b y : Bool) → (((t && a) && b) || (not t && y)) ≡ pick t (both a b) y
unfolding both
by_guards true true true y = refl
by_guards true true false y = refl
by_guards true false b y = refl
by_guards false a b y = refl

pub step_made : (s : Scan) (b : ℕ) (d : Bool) (v : ℕ) → d ≡ is_digit b → v ≡ value_of b
    → record { blank = (s.blank && eqb b 32); lead = (s.blank && (eqb b 32 || eqb b 45)); minus = (eqb b 45 || s.minus); ends = d; good = (d && (((s.ends && s.good) && not (eqb s.code 0)) || (not s.ends && s.lead))); code = 16 * s.code + v } ≡ step_of s b
unfolding step_of
step_made s b d v pd pv = rw (pd, pv, by_guards) (simp (and_both, or_pick, not_pick))

pub take_made : (h : Number) (b : ℕ) (d : Bool) (v : ℕ) → d ≡ is_digit b → v ≡ value_of b → record { good = (h.good && d); minus = h.minus; mag = 16 * h.mag + v } ≡ taken_of h b
unfolding taken_of
take_made h b d v p q = rw (q, p, and_both)
