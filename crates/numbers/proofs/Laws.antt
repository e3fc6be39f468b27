-- The one law of numbers in columns, over the width and the decimals: what is written reads back, and what reads is what would be written.
-- Assumes nothing.
use mathlib.Core.Path.{◌≡◌, refl, sym, ◌∙◌, ap, ap₂}
use mathlib.Core.List.{List, [], ◌∷◌, ◌++◌}
use mathlib.Core.Bool.{Bool, true, false}
use Prim.Native.Nat.{ℕ, zero, suc, ◌+◌, ◌-◌, ◌*◌, ◌/◌, ◌≤◌, ◌<◌}
use native.Mathlib.Omega.{arith}
use lib.ListN.{length, get_or}
use lib.Dec.{eqb, ltb}
use borrow.Author.Tests.{ltb-true, ltb-false, lt-ltb, le-ltb, le-leb, ne_eqb, eqb-true, eqb-false}
use Rattle.ascii.specs.Tests.{between, pick, is_digit}
use Rattle.columns.specs.Columns.{gap_of, cols, blanks}
use Rattle.ascii.proofs.Clean.{Clean, Fine, clean_append, fine}
use Rattle.columns.proofs.Spans.{cols_suc, cols_init, cols_last, snoc_length, blanks_length, blanks_clean, gap_text, gap_back}
use Rattle.ascii.proofs.Choice.{never, picks}
use Rattle.numbers.specs.declared.Number.{Number}
use Rattle.numbers.specs.Number.{none, ends_digit, lead_of, further_of, grown_of, number_of, leader, digit_of, render, room}
use Rattle.numbers.specs.Promise.{NumberLaw}
use Rattle.numbers.proofs.Steps.{digit_low, digit_high}

-- ---- lengths
pub leader_length : (n : ℕ) (m : Bool) → length (leader n m) ≡ n
unfolding leader
leader_length zero m = refl
leader_length (suc n) m = snoc_length (blanks n) (pick m 45 32) n (blanks_length n)

pub render_length : (n e : ℕ) (m : Bool) (v : ℕ) → length (render n e m v) ≡ n
unfolding render
render_length zero e m v = refl
render_length (suc n) zero m v =
    snoc_length (pick (ltb v 10) (leader n m) (render n 0 m (v / 10))) (digit_of v) n
    (picks (λ (x : List ℕ). length x ≡ n) (ltb v 10) (leader n m) (render n 0 m (v / 10)) (λ _. leader_length n m) (λ _. render_length n 0 m (v / 10)))
render_length (suc n) (suc zero) m v = snoc_length (render n 0 m v) 46 n (render_length n 0 m v)
render_length (suc n) (suc (suc e)) m v = snoc_length (render n (suc e) m (v / 10)) (digit_of v) n (render_length n (suc e) m (v / 10))

-- ---- what reads is what would be written
abbrev Written : List ℕ → ℕ → ℕ → ℕ → Number → Type 0
Written l at n e r = r.good ≡ true → (render n e r.minus r.mag ≡ cols l at n) × (room n e r.minus r.mag ≡ true)

abbrev Led : List ℕ → ℕ → ℕ → ℕ → Number → Type 0
Led l at n b r = r.good ≡ true → (leader n r.minus ≡ cols l at n) × (pick r.minus (ltb 0 n) true ≡ true) × (r.mag ≡ b - 48)

lead_text : (l : List ℕ) (at n b : ℕ) → at + n ≤ length l → Led l at n b (lead_of l at n b)
unfolding lead_of leader
lead_text l at zero b h = λ g. (refl, refl, refl)
lead_text l at (suc n) b h =
    picks (Led l at (suc n) b) (eqb (gap_of l at n) 0) _ none
    (λ z. picks (Led l at (suc n) b) (eqb (get_or l (at + n) 0) 32) _ _
    (λ s _. (led z 32 (eqb-true _ _ s), refl, refl))
    (λ _. picks (Led l at (suc n) b) (eqb (get_or l (at + n) 0) 45) _ none (λ s _. (led z 45 (eqb-true _ _ s), lt-ltb 0 (suc n) (omega arith), refl)) (λ _ g. never g)))
    (λ _ g. never g)
  where
    led : eqb (gap_of l at n) 0 ≡ true → (s : ℕ) → get_or l (at + n) 0 ≡ s → blanks n ++ (s ∷ []) ≡ cols l at (suc n)
    led z s e = ap₂ (λ x y. x ++ (y ∷ [])) (gap_text l at n (omega arith) (eqb-true _ _ z)) (sym e) ∙ sym (cols_suc l at n h)

further_good : (h : Number) (b : ℕ) → (further_of h b).good ≡ true → (h.good ≡ true) × ((further_of h b).minus ≡ h.minus) × ((further_of h b).mag ≡ 10 * h.mag + (b - 48))
unfolding further_of
further_good h b =
    picks (λ (r : Number). r.good ≡ true → (h.good ≡ true) × (r.minus ≡ h.minus) × (r.mag ≡ 10 * h.mag + (b - 48))) h.good _ none
    (λ t _. (t, refl, refl)) (λ _ g. never g)

-- one digit more, and one digit less
next_div : (q b : ℕ) → is_digit b ≡ true → (10 * q + (b - 48)) / 10 ≡ q
next_div q b d = omega (arith, digit_low b d, digit_high b d)

next_digit : (q b : ℕ) → is_digit b ≡ true → digit_of (10 * q + (b - 48)) ≡ b
next_digit q b d = omega (arith, digit_low b d, digit_high b d)

point_text : (l : List ℕ) (at n : ℕ) → at + suc n ≤ length l → (w : Number) → get_or l (at + n) 0 ≡ 46 → Written l at n 0 w → Written l at (suc n) 1 w
unfolding render room
point_text l at n h w t k g = let q = k g in (ap₂ (λ x y. x ++ (y ∷ [])) q.0 (sym t) ∙ sym (cols_suc l at n h), q.1)

module _ (l : List ℕ) (at n : ℕ) (h : at + suc n ≤ length l) (d : is_digit (get_or l (at + n) 0) ≡ true) where
  snoc : (x : List ℕ) (c : ℕ) → x ≡ cols l at n → c ≡ get_or l (at + n) 0 → x ++ (c ∷ []) ≡ cols l at (suc n)
  snoc x c e f = ap₂ (λ x y. x ++ (y ∷ [])) e f ∙ sym (cols_suc l at n h)

  further_text : (e : ℕ) (w : Number) → Written l at n (suc e) w → Written l at (suc n) (suc (suc e)) (further_of w (get_or l (at + n) 0))
  unfolding render room
  further_text e w k g =
      let f = further_good w (get_or l (at + n) 0) g in
      let q = k f.0 in
      rw (f.1, f.2, next_div w.mag (get_or l (at + n) 0) d, next_digit w.mag (get_or l (at + n) 0) d)
      (snoc (render n (suc e) w.minus w.mag) (get_or l (at + n) 0) q.0 refl, q.1)

  grown_text : (w : Number) → Written l at n 0 w → Written l at (suc n) 0 (grown_of w (get_or l (at + n) 0))
  unfolding render room grown_of
  grown_text w k =
      picks (Written l at (suc n) 0) (eqb w.mag 0) none (further_of w (get_or l (at + n) 0)) (λ _ g. never g)
      (λ z g.
      let f = further_good w (get_or l (at + n) 0) g in
      let q = k f.0 in
      let big : 10 ≤ 10 * w.mag + (get_or l (at + n) 0 - 48) = let y = eqb-false w.mag 0 z in omega arith in
      rw (f.1, f.2, le-ltb _ _ big, next_div w.mag (get_or l (at + n) 0) d, next_digit w.mag (get_or l (at + n) 0) d)
      (snoc (render n 0 w.minus w.mag) (get_or l (at + n) 0) q.0 refl, q.1))

  led_text : (w : Number) → Led l at n (get_or l (at + n) 0) w → Written l at (suc n) 0 w
  unfolding render room
  led_text w k g =
      let q = k g in
      let less : get_or l (at + n) 0 - 48 < 10 = omega (arith, digit_high (get_or l (at + n) 0) d) in
      let same : digit_of (get_or l (at + n) 0 - 48) ≡ get_or l (at + n) 0 = omega (arith, digit_low (get_or l (at + n) 0) d, digit_high (get_or l (at + n) 0) d) in
      rw (q.2, lt-ltb _ _ less, same)
      (snoc (leader n w.minus) (get_or l (at + n) 0) q.0 refl, q.1)

-- THE LAW, one way: where columns hold a number, they are what that number is written as, and it has room.
pub number_text : (l : List ℕ) (at n e : ℕ) → at + n ≤ length l → Written l at n e (number_of l at n e)
unfolding number_of
number_text l at zero e h = λ g. never g
number_text l at (suc n) zero h =
    picks (Written l at (suc n) 0) (is_digit (get_or l (at + n) 0)) _ none
    (λ d. picks (Written l at (suc n) 0) (ends_digit l at n) _ _
    (λ _. grown_text l at n h d (number_of l at n 0) (number_text l at n 0 (omega arith)))
    (λ _. led_text l at n h d (lead_of l at n (get_or l (at + n) 0)) (lead_text l at n (get_or l (at + n) 0) (omega arith))))
    (λ _ g. never g)
number_text l at (suc n) (suc zero) h =
    picks (Written l at (suc n) 1) (eqb (get_or l (at + n) 0) 46) _ none
    (λ t. point_text l at n h (number_of l at n 0) (eqb-true _ _ t) (number_text l at n 0 (omega arith)))
    (λ _ g. never g)
number_text l at (suc n) (suc (suc e)) h =
    picks (Written l at (suc n) (suc (suc e))) (is_digit (get_or l (at + n) 0)) _ none
    (λ d. further_text l at n h d e (number_of l at n (suc e)) (number_text l at n (suc e) (omega arith)))
    (λ _ g. never g)

-- ---- what is written reads back
digit_is : (v : ℕ) → is_digit (digit_of v) ≡ true
unfolding between
digit_is v = simp (le-ltb (digit_of v) 48 (omega arith), le-leb (digit_of v) 57 (omega arith))

front : ℕ → Bool → ℕ → Bool → List ℕ
front n m v t = pick t (leader n m) (render n 0 m (v / 10))

front_length : (n : ℕ) (m : Bool) (v : ℕ) (t : Bool) → length (front n m v t) ≡ n
unfolding front
front_length n m v true = leader_length n m
front_length n m v false = render_length n 0 m (v / 10)

-- the last column of a number in front of the point is a digit, and that of what leads it is not
ends_number : (l : List ℕ) (at n : ℕ) (m : Bool) (v : ℕ) → room n 0 m v ≡ true → cols l at n ≡ render n 0 m v → ends_digit l at n ≡ true
unfolding room render ends_digit front
ends_number l at zero m v r e = never r
ends_number l at (suc n) m v r e = ap is_digit (cols_last l at n (front n m v (ltb v 10)) (digit_of v) (front_length n m v (ltb v 10)) e) ∙ digit_is v

sign_is : (m : Bool) → is_digit (pick m 45 32) ≡ false
unfolding between
sign_is true = refl
sign_is false = refl

ends_leader : (l : List ℕ) (at n : ℕ) (m : Bool) → cols l at n ≡ leader n m → ends_digit l at n ≡ false
unfolding leader ends_digit
ends_leader l at zero m e = refl
ends_leader l at (suc n) m e = ap is_digit (cols_last l at n (blanks n) (pick m 45 32) (blanks_length n) e) ∙ sign_is m

lead_back : (l : List ℕ) (at n b : ℕ) (m : Bool) → pick m (ltb 0 n) true ≡ true → cols l at n ≡ leader n m → lead_of l at n b ≡ record { good = true; minus = m; mag = b - 48 }
unfolding leader lead_of
lead_back l at zero b true r e = never r
lead_back l at zero b false r e = refl
lead_back l at (suc n) b true r e =
    rw (gap_back l at n (cols_init l at n (blanks n) 45 (blanks_length n) e), cols_last l at n (blanks n) 45 (blanks_length n) e)
lead_back l at (suc n) b false r e =
    rw (gap_back l at n (cols_init l at n (blanks n) 32 (blanks_length n) e), cols_last l at n (blanks n) 32 (blanks_length n) e)

abbrev Back : List ℕ → ℕ → ℕ → ℕ → Bool → ℕ → Type 0
Back l at n e m v = room n e m v ≡ true → cols l at n ≡ render n e m v → number_of l at n e ≡ record { good = true; minus = m; mag = v }

further_back : (l : List ℕ) (at n e : ℕ) (m : Bool) (v : ℕ) → Back l at n (suc e) m (v / 10) → Back l at (suc n) (suc (suc e)) m v
unfolding number_of room render further_of
further_back l at n e m v k r q =
    let x : List ℕ = render n (suc e) m (v / 10) in
    let i = cols_init l at n x (digit_of v) (render_length n (suc e) m (v / 10)) q in
    let b = cols_last l at n x (digit_of v) (render_length n (suc e) m (v / 10)) q in
    let w : 10 * (v / 10) + (digit_of v - 48) ≡ v = omega arith in
    rw (b, digit_is v, k r i) (ap (λ (y : ℕ). record { good = true; minus = m; mag = y }) w)

point_back : (l : List ℕ) (at n : ℕ) (m : Bool) (v : ℕ) → Back l at n 0 m v → Back l at (suc n) 1 m v
unfolding number_of room render
point_back l at n m v k r q =
    rw (cols_last l at n (render n 0 m v) 46 (render_length n 0 m v) q) (k r (cols_init l at n (render n 0 m v) 46 (render_length n 0 m v) q))

grown_back : (m : Bool) (q b v : ℕ) → (q ≡ 0 → ⊥) → 10 * q + (b - 48) ≡ v → grown_of (record { good = true; minus = m; mag = q }) b ≡ record { good = true; minus = m; mag = v }
unfolding grown_of further_of
grown_back m q b v z w = rw (ne_eqb q 0 z) (ap (λ (y : ℕ). record { good = true; minus = m; mag = y }) w)

whole_back : (l : List ℕ) (at n : ℕ) (m : Bool) (v : ℕ) → Back l at n 0 m (v / 10) → Back l at (suc n) 0 m v
unfolding number_of room render
whole_back l at n m v k r q = go (ltb v 10) refl r q
  where
    go : (t : Bool) → ltb v 10 ≡ t → pick t (pick m (ltb 0 n) true) (room n 0 m (v / 10)) ≡ true
        → cols l at (suc n) ≡ pick t (leader n m) (render n 0 m (v / 10)) ++ (digit_of v ∷ [])
        → number_of l at (suc n) 0 ≡ record { good = true; minus = m; mag = v }
    go true t r q =
        let i = cols_init l at n (leader n m) (digit_of v) (leader_length n m) q in
        let b = cols_last l at n (leader n m) (digit_of v) (leader_length n m) q in
        let less = ltb-true v 10 t in
        let w : digit_of v - 48 ≡ v = omega arith in
        rw (b, digit_is v, ends_leader l at n m i, lead_back l at n (digit_of v) m r i) (ap (λ (y : ℕ). record { good = true; minus = m; mag = y }) w)
    go false t r q =
        let x : List ℕ = render n 0 m (v / 10) in
        let i = cols_init l at n x (digit_of v) (render_length n 0 m (v / 10)) q in
        let b = cols_last l at n x (digit_of v) (render_length n 0 m (v / 10)) q in
        let more = ltb-false v 10 t in
        let w : 10 * (v / 10) + (digit_of v - 48) ≡ v = omega arith in
        let z : v / 10 ≡ 0 → ⊥ = λ y. omega arith in
        rw (b, digit_is v, ends_number l at n m (v / 10) r i, k r i) (grown_back m (v / 10) (digit_of v) v z w)

-- THE LAW, the other way: a number that has room reads back from what it is written as.
pub number_back : (l : List ℕ) (at n e : ℕ) (m : Bool) (v : ℕ) → Back l at n e m v
unfolding room
number_back l at zero e m v = λ r q. never r
number_back l at (suc n) zero m v = whole_back l at n m v (number_back l at n 0 m (v / 10))
number_back l at (suc n) (suc zero) m v = point_back l at n m v (number_back l at n 0 m v)
number_back l at (suc n) (suc (suc e)) m v = further_back l at n e m v (number_back l at n (suc e) m (v / 10))

pub number_law : NumberLaw
number_law = record { text = number_text; back = number_back }

-- ---- what is written is clean
sign_clean : (m : Bool) → Fine (pick m 45 32)
sign_clean true = fine 45 (omega arith) (omega arith)
sign_clean false = fine 32 (omega arith) (omega arith)

leader_clean : (n : ℕ) (m : Bool) → Clean (leader n m)
unfolding leader
leader_clean zero m = tt
leader_clean (suc n) m = clean_append (blanks n) (pick m 45 32 ∷ []) (blanks_clean n) (sign_clean m, tt)

digit_clean : (v : ℕ) → Clean (digit_of v ∷ [])
digit_clean v = (fine (digit_of v) (omega arith) (omega arith), tt)

pub render_clean : (n e : ℕ) (m : Bool) (v : ℕ) → Clean (render n e m v)
unfolding render
render_clean zero e m v = tt
render_clean (suc n) zero m v =
    clean_append (pick (ltb v 10) (leader n m) (render n 0 m (v / 10))) (digit_of v ∷ [])
    (picks (λ (x : List ℕ). Clean x) (ltb v 10) (leader n m) (render n 0 m (v / 10)) (λ _. leader_clean n m) (λ _. render_clean n 0 m (v / 10))) (digit_clean v)
render_clean (suc n) (suc zero) m v = clean_append (render n 0 m v) (46 ∷ []) (render_clean n 0 m v) (fine 46 (omega arith) (omega arith), tt)
render_clean (suc n) (suc (suc e)) m v = clean_append (render n (suc e) m (v / 10)) (digit_of v ∷ []) (render_clean n (suc e) m (v / 10)) (digit_clean v)
