-- Fields side by side: the leftmost wrong one of two runs of fields, of blank columns, and of fields with a rule between them.
-- Assumes nothing.
use mathlib.Core.Path.{◌≡◌, refl, sym, ◌∙◌, ap, ap₂, subst}
use mathlib.Core.List.{List, [], ◌∷◌, ◌++◌, map}
use mathlib.Core.Bool.{Bool, true, false, false≢true}
use mathlib.Core.Logic.{◌⊎◌, inl, inr, ⊎_elim}
use Prim.Native.Nat.{ℕ, zero, suc, ◌+◌, ◌≤◌, ◌<◌}
use native.Mathlib.Omega.{arith}
use lib.Dec.{eqb}
use borrow.Author.Tests.{eqb-true, eqb-false, eq-eqb}
use Rattle.ascii.specs.Tests.{pick, both}
use Rattle.ascii.proofs.Bools.{both_true}
use Rattle.ascii.proofs.Choice.{both_split, both_join}
use Rattle.columns.specs.Columns.{blame, blamed_of, leftmost, first_of, blank_at, gap_of}
use Rattle.fields.specs.Format.{Field, same_bytes, blank_fields, with_rule, leftmost_wrong, SideBySide, Among, Leftmost}

-- ---- fields side by side
side_cast : (c d e f : ℕ) (xs : List Field) → c ≡ d → e ≡ f → SideBySide c xs e → SideBySide d xs f
side_cast c d e f xs p q s = subst (λ (x : ℕ). SideBySide d xs x) q (subst (λ (x : ℕ). SideBySide x xs e) p s)

side_append : (c m e : ℕ) (xs ys : List Field) → SideBySide c xs m → SideBySide m ys e → SideBySide c (xs ++ ys) e
unfolding SideBySide
side_append c m e [] ys s t = subst (λ (x : ℕ). SideBySide x ys e) (sym s) t
side_append c m e (f ∷ xs) ys s t = (s.0, side_append (c + f.width) m e xs ys s.1 t)

-- the fields of columns next to each other
pub side_join : (begin v w : ℕ) (xs ys : List Field) → SideBySide (begin + 1) xs (begin + 1 + v) → SideBySide (begin + v + 1) ys (begin + v + 1 + w)
    → SideBySide (begin + 1) (xs ++ ys) (begin + 1 + (v + w))
side_join begin v w xs ys s t =
    side_append (begin + 1) (begin + 1 + v) (begin + 1 + (v + w)) xs ys s
    (side_cast (begin + v + 1) (begin + 1 + v) (begin + v + 1 + w) (begin + 1 + (v + w)) ys (omega arith) (omega arith) t)

first_pos : (a b : ℕ) → 1 ≤ a → first_of a b ≡ a
unfolding first_of
first_pos zero b h = absurd (omega arith)
first_pos (suc a) b h = refl

pub wrong_append : (c e : ℕ) (xs ys : List Field) → 1 ≤ c → SideBySide c xs e → leftmost_wrong (xs ++ ys) ≡ first_of (leftmost_wrong xs) (leftmost_wrong ys)
unfolding leftmost_wrong SideBySide first_of
wrong_append c e [] ys h s = refl
wrong_append c e (f ∷ xs) ys h s = go (wrong_append (c + f.width) e xs ys (omega arith) s.1) f.right
  where
    go : leftmost_wrong (xs ++ ys) ≡ first_of (leftmost_wrong xs) (leftmost_wrong ys) → (b : Bool)
        → pick b (leftmost_wrong (xs ++ ys)) f.column ≡ first_of (pick b (leftmost_wrong xs) f.column) (leftmost_wrong ys)
    go r true = r
    go r false = sym (first_pos f.column (leftmost_wrong ys) (omega (arith, s.0)))

-- the leftmost wrong one, if any, is among them
pub wrong_low : (c e : ℕ) (xs : List Field) → SideBySide c xs e → (leftmost_wrong xs ≡ 0) ⊎ (c ≤ leftmost_wrong xs)
unfolding leftmost_wrong SideBySide
wrong_low c e [] s = inl refl
wrong_low c e (f ∷ xs) s = go (wrong_low (c + f.width) e xs s.1) f.right
  where
    go : (leftmost_wrong xs ≡ 0) ⊎ (c + f.width ≤ leftmost_wrong xs) → (b : Bool) → (pick b (leftmost_wrong xs) f.column ≡ 0) ⊎ (c ≤ pick b (leftmost_wrong xs) f.column)
    go (inl z) true = inl z
    go (inr h) true = inr (omega arith)
    go r false = inr (omega (arith, s.0))

-- ---- blank columns
pub blank_side : (l : List ℕ) (at n : ℕ) → SideBySide (at + 1) (blank_fields l at n) (at + 1 + n)
unfolding blank_fields SideBySide
blank_side l at zero = omega arith
blank_side l at (suc n) = side_append (at + 1) (at + 1 + n) (at + 1 + suc n) (blank_fields l at n) _ (blank_side l at n) (omega arith, omega arith)

pub blank_wrong : (l : List ℕ) (at n : ℕ) → gap_of l at n ≡ leftmost_wrong (blank_fields l at n)
unfolding blank_fields leftmost_wrong gap_of blank_at
blank_wrong l at zero = refl
blank_wrong l at (suc n) =
    ap (λ (x : ℕ). first_of x (blank_at l (at + n))) (blank_wrong l at n)
    ∙ sym (wrong_append (at + 1) (at + 1 + n) (blank_fields l at n) _ (omega arith) (blank_side l at n))

-- ---- a rule between fields
unfoldable pub HasColumn : ℕ → List Field → Type 0
HasColumn c [] = ⊥
HasColumn c (f ∷ xs) = (f.column ≡ c) ⊎ HasColumn c xs

has_low : (c d e : ℕ) (xs : List Field) → SideBySide d xs e → HasColumn c xs → d ≤ c
unfolding SideBySide HasColumn
has_low c d e [] s h = absurd h
has_low c d e (f ∷ xs) s (inl p) = omega (arith, s.0)
has_low c d e (f ∷ xs) s (inr h) = omega (arith, has_low c (d + f.width) e xs s.1 h)

pub has_left : (c : ℕ) (xs ys : List Field) → HasColumn c xs → HasColumn c (xs ++ ys)
unfolding HasColumn
has_left c [] ys h = absurd h
has_left c (f ∷ xs) ys (inl p) = inl p
has_left c (f ∷ xs) ys (inr h) = inr (has_left c xs ys h)

pub has_right : (c : ℕ) (xs ys : List Field) → HasColumn c ys → HasColumn c (xs ++ ys)
unfolding HasColumn
has_right c [] ys h = h
has_right c (f ∷ xs) ys h = inr (has_right c xs ys h)

pub rule_side : (c : ℕ) (holds : Bool) (d e : ℕ) (xs : List Field) → SideBySide d xs e → SideBySide d (map (with_rule c holds) xs) e
unfolding SideBySide
rule_side c holds d e [] s = s
rule_side c holds d e (f ∷ xs) s = (s.0, rule_side c holds (d + f.width) e xs s.1)

pick_same : (b a : Bool) → pick b a a ≡ a
pick_same true a = refl
pick_same false a = refl

rule_kept : (c : ℕ) (xs : List Field) → leftmost_wrong (map (with_rule c true) xs) ≡ leftmost_wrong xs
unfolding leftmost_wrong
rule_kept c [] = refl
rule_kept c (f ∷ xs) = rw (both_true f.right, pick_same (eqb f.column c) f.right, rule_kept c xs)

left_high : (x c : ℕ) → 1 ≤ c → (x ≡ 0) ⊎ (c ≤ x) → leftmost x c ≡ c
unfolding leftmost
left_high x zero h p = absurd (omega arith)
left_high zero (suc c) h p = refl
left_high (suc x) (suc c) h (inl z) = absurd (omega arith)
left_high (suc x) (suc c) h (inr g) = omega arith

left_low : (x c : ℕ) → 1 ≤ x → x ≤ c → leftmost x c ≡ x
unfolding leftmost
left_low zero c h g = absurd (omega arith)
left_low (suc x) zero h g = absurd (omega arith)
left_low (suc x) (suc c) h g = omega arith

left_none : (x : ℕ) → leftmost x 0 ≡ x
unfolding leftmost
left_none zero = refl
left_none (suc x) = refl

-- a rule that is broken blames the field at column c, where no field left of it is wrong
rule_step : (c d e : ℕ) (f : Field) (xs : List Field) → 1 ≤ d → SideBySide d (f ∷ xs) e
    → (f.column ≡ c) ⊎ ((d ≤ c) × (leftmost (leftmost_wrong xs) c ≡ leftmost_wrong (map (with_rule c false) xs)))
    → leftmost (leftmost_wrong (f ∷ xs)) c ≡ leftmost_wrong (map (with_rule c false) (f ∷ xs))
unfolding leftmost_wrong SideBySide both
rule_step c d e f xs h s = go (eqb f.column c) refl f.right
  where
    above : (leftmost_wrong xs ≡ 0) ⊎ (d ≤ leftmost_wrong xs)
    above = ⊎_elim (λ z. inl z) (λ (g : d + f.width ≤ leftmost_wrong xs). inr (omega arith)) (wrong_low (d + f.width) e xs s.1)

    go : (t : Bool) → eqb f.column c ≡ t → (r : Bool) → (f.column ≡ c) ⊎ ((d ≤ c) × (leftmost (leftmost_wrong xs) c ≡ leftmost_wrong (map (with_rule c false) xs)))
        → leftmost (pick r (leftmost_wrong xs) f.column) c ≡ pick (pick t (both r false) r) (leftmost_wrong (map (with_rule c false) xs)) f.column
    go true t true p =
        let q : f.column ≡ c = eqb-true _ _ t in
        let dc : d ≡ c = sym s.0 ∙ q in
        left_high (leftmost_wrong xs) c (omega arith) (subst (λ (x : ℕ). (leftmost_wrong xs ≡ 0) ⊎ (x ≤ leftmost_wrong xs)) dc above) ∙ sym q
    go true t false p = let q : f.column ≡ c = eqb-true _ _ t in left_low f.column c (omega (arith, s.0)) (omega arith)
    go false t r (inl p) = absurd (eqb-false _ _ t p)
    go false t true (inr p) = p.1
    go false t false (inr p) = left_low f.column c (omega (arith, s.0)) (omega (arith, s.0, p.0))

rule_broken : (c d e : ℕ) (xs : List Field) → 1 ≤ d → SideBySide d xs e → HasColumn c xs → leftmost (leftmost_wrong xs) c ≡ leftmost_wrong (map (with_rule c false) xs)
unfolding SideBySide HasColumn
rule_broken c d e [] h s k = absurd k
rule_broken c d e (f ∷ xs) h s (inl p) = rule_step c d e f xs h s (inl p)
rule_broken c d e (f ∷ xs) h s (inr q) =
    rule_step c d e f xs h s (inr (omega (arith, has_low c (d + f.width) e xs s.1 q), rule_broken c (d + f.width) e xs (omega arith) s.1 q))

pub rule_wrong : (c d e : ℕ) (xs : List Field) (holds : Bool) → 1 ≤ d → SideBySide d xs e → HasColumn c xs
    → leftmost (leftmost_wrong xs) (blamed_of holds c) ≡ leftmost_wrong (map (with_rule c holds) xs)
unfolding blamed_of
rule_wrong c d e xs true h s k = left_none (leftmost_wrong xs) ∙ sym (rule_kept c xs)
rule_wrong c d e xs false h s k = rule_broken c d e xs h s k

-- ---- one field
pub same_bytes_lem : (x y : List ℕ) → same_bytes x y ≡ true → x ≡ y
unfolding same_bytes
same_bytes_lem [] [] e = refl
same_bytes_lem [] (b ∷ y) e = absurd (false≢true e)
same_bytes_lem (a ∷ x) [] e = absurd (false≢true e)
same_bytes_lem (a ∷ x) (b ∷ y) e = let w = both_split (eqb a b) (same_bytes x y) e in ap₂ ◌∷◌ (eqb-true a b w.0) (same_bytes_lem x y w.1)

pub same_self : (x : List ℕ) → same_bytes x x ≡ true
unfolding same_bytes
same_self [] = refl
same_self (a ∷ x) = both_join _ _ (eq-eqb a a refl) (same_self x)

-- the fault of one field, by a test of its value
pub first_left : (at x : ℕ) (t : Bool) → (x ≡ 0) ⊎ (x ≡ at + 1) → first_of x (blame t at) ≡ leftmost x (blamed_of t (at + 1))
unfolding blame blamed_of first_of leftmost
first_left at x true (inl z) = rw z
first_left at x true (inr z) = first_pos x 0 (omega arith) ∙ sym (left_none x)
first_left at x false (inl z) = rw z
first_left at x false (inr z) = first_pos x (at + 1) (omega arith) ∙ sym (left_low x (at + 1) (omega arith) (omega arith))

-- fields that fill a column have one that begins there
pub first_of_lem : (c w : ℕ) (xs : List Field) → 0 < w → SideBySide c xs (c + w) → HasColumn c xs
unfolding SideBySide HasColumn
first_of_lem c w [] h s = absurd (omega arith)
first_of_lem c w (x ∷ xs) h s = inl s.0

pub blame_first : (t : Bool) (at : ℕ) → (blame t at ≡ 0) ⊎ (blame t at ≡ at + 1)
unfolding blame
blame_first true at = inl refl
blame_first false at = inr refl

pub has_rule : (c d : ℕ) (holds : Bool) (xs : List Field) → HasColumn c xs → HasColumn c (map (with_rule d holds) xs)
unfolding HasColumn
has_rule c d holds [] h = h
has_rule c d holds (f ∷ xs) (inl p) = inl p
has_rule c d holds (f ∷ xs) (inr h) = inr (has_rule c d holds xs h)

-- ---- what the leftmost wrong column says
among_low : (f : Field) (c e : ℕ) (xs : List Field) → SideBySide c xs e → Among f xs → c ≤ f.column
unfolding SideBySide
among_low f c e [] s a = absurd a
among_low f c e (x ∷ xs) s (inl p) = omega (arith, s.0, ap (λ (y : Field). y.column) p)
among_low f c e (x ∷ xs) s (inr a) = omega (arith, among_low f (c + x.width) e xs s.1 a)

right_before : (c e : ℕ) (xs : List Field) → SideBySide c xs e → (f : Field) → Among f xs → f.column < leftmost_wrong xs → f.right ≡ true
unfolding leftmost_wrong SideBySide
right_before c e [] s f a h = absurd a
right_before c e (x ∷ xs) s f a h = go (λ b. right_before (c + x.width) e xs s.1 f b) x.right refl a h
  where
    go : (Among f xs → f.column < leftmost_wrong xs → f.right ≡ true) → (r : Bool) → x.right ≡ r → (f ≡ x) ⊎ Among f xs → f.column < pick r (leftmost_wrong xs) x.column → f.right ≡ true
    go again true t (inl p) g = ap (λ (y : Field). y.right) p ∙ t
    go again true t (inr b) g = again b g
    go again false t (inl p) g = absurd (omega (arith, ap (λ (y : Field). y.column) p))
    go again false t (inr b) g = absurd (omega (arith, s.0, among_low f (c + x.width) e xs s.1 b))

wrong_here : (xs : List Field) → (leftmost_wrong xs ≡ 0 → ⊥) → (f : Field) × Among f xs × (f.column ≡ leftmost_wrong xs) × (f.right ≡ false)
unfolding leftmost_wrong
wrong_here [] z = absurd (z refl)
wrong_here (x ∷ xs) z = go (wrong_here xs) x.right refl z
  where
    go : ((leftmost_wrong xs ≡ 0 → ⊥) → (f : Field) × Among f xs × (f.column ≡ leftmost_wrong xs) × (f.right ≡ false)) → (r : Bool) → x.right ≡ r → (pick r (leftmost_wrong xs) x.column ≡ 0 → ⊥)
        → (f : Field) × ((f ≡ x) ⊎ Among f xs) × (f.column ≡ pick r (leftmost_wrong xs) x.column) × (f.right ≡ false)
    go again true t n = let w = again n in (w.0, inr w.1, w.2, w.3)
    go again false t n = (x, inl refl, refl, t)

none_wrong : (c e : ℕ) (xs : List Field) → 1 ≤ c → SideBySide c xs e → leftmost_wrong xs ≡ 0 → (f : Field) → Among f xs → f.right ≡ true
unfolding leftmost_wrong SideBySide
none_wrong c e [] h s z f a = absurd a
none_wrong c e (x ∷ xs) h s z f a = go (none_wrong (c + x.width) e xs (omega arith) s.1) x.right refl z a
  where
    go : (leftmost_wrong xs ≡ 0 → (f : Field) → Among f xs → f.right ≡ true) → (r : Bool) → x.right ≡ r → pick r (leftmost_wrong xs) x.column ≡ 0 → (f ≡ x) ⊎ Among f xs → f.right ≡ true
    go again true t n (inl p) = ap (λ (y : Field). y.right) p ∙ t
    go again true t n (inr b) = again n f b
    go again false t n b = absurd (omega (arith, s.0))

pub leftmost_of : (c e : ℕ) (xs : List Field) → 1 ≤ c → SideBySide c xs e → Leftmost xs (leftmost_wrong xs)
leftmost_of c e xs h s = record { before = right_before c e xs s; here = wrong_here xs; none = none_wrong c e xs h s }
