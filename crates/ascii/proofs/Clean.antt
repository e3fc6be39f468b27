-- Clean text: each byte 32 to 126, as every column must be.
-- Assumes nothing.
use mathlib.Core.Path.{◌≡◌}
use mathlib.Core.List.{List, [], ◌∷◌, ◌++◌}
use mathlib.Core.Bool.{Bool, true, false}
use Prim.Native.Nat.{ℕ, zero, suc, ◌≤◌, ◌<◌}
use native.Mathlib.Omega.{arith}
use lib.Dec.{T, leb, ltb}
use lib.ListN.{length, get_or}
use borrow.Author.Tests.{le-leb, le-ltb, ltb-false, leb-true}
use Rattle.ascii.specs.Bytes.{byte}
use Rattle.ascii.specs.Tests.{pick, same, between, is_digit, is_upper, is_code}
use Rattle.ascii.proofs.Choice.{picks, either_split, same_is, between_low, between_high}

abbrev pub Fine : ℕ → Type 0
Fine b = between (byte " ") (byte "~") b ≡ true

abbrev pub Clean : List ℕ → Type 0
Clean [] = Unit {0}
Clean (b ∷ x) = Fine b × Clean x

pub clean_append : (x y : List ℕ) → Clean x → Clean y → Clean (x ++ y)
clean_append [] y p q = q
clean_append (b ∷ x) y p q = (p.0, clean_append x y p.1 q)

pub clean_at_lem : (l : List ℕ) → Clean l → (i : ℕ) → i < length l → Fine (get_or l i 0)
clean_at_lem [] c i h = absurd (omega arith)
clean_at_lem (b ∷ l) c zero h = c.0
clean_at_lem (b ∷ l) c (suc i) h = clean_at_lem l c.1 i (omega arith)

-- ---- classes of bytes
pub fine : (b : ℕ) → 32 ≤ b → b ≤ 126 → Fine b
unfolding between
fine b p q = rw (le-ltb _ _ p, le-leb _ _ q)

pub fine_within : (lo hi b : ℕ) → 32 ≤ lo → hi ≤ 126 → between lo hi b ≡ true → Fine b
fine_within lo hi b p q e = let h = between_low lo hi b e in let k = between_high lo hi b e in fine b (omega arith) (omega arith)

pub fine_is : (x b : ℕ) → 32 ≤ x → x ≤ 126 → same b x ≡ true → Fine b
fine_is x b p q e = let h = same_is b x e in fine b (omega arith) (omega arith)

pub fine_blank : (b : ℕ) → same b (byte " ") ≡ true → Fine b
fine_blank b = fine_is 32 b (omega arith) (omega arith)

pub fine_upper : (b : ℕ) → is_upper b ≡ true → Fine b
fine_upper b = fine_within 65 90 b (omega arith) (omega arith)

pub fine_code : (b : ℕ) → is_code b ≡ true → Fine b
fine_code b = either_split (is_upper b) (is_digit b) (fine_upper b) (fine_within 48 57 b (omega arith) (omega arith))

-- ---- a text that is written out: the test computes
abbrev pub printed : List ℕ → Bool
printed [] = true
printed (b ∷ x) = pick (ltb b 32) false (pick (leb b 126) (printed x) false)

pub clean_literal : (x : List ℕ) → T (printed x) → Clean x
clean_literal [] = λ t. tt
clean_literal (b ∷ x) =
    picks (λ (r : Bool). T r → Clean (b ∷ x)) (ltb b 32) false _ (λ _ t. absurd t)
    (λ p. picks (λ (r : Bool). T r → Clean (b ∷ x)) (leb b 126) (printed x) false (λ q t. (fine b (ltb-false b 32 p) (leb-true b 126 q), clean_literal x t)) (λ _ t. absurd t))
