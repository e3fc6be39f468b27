-- The order of integers, and the lower and the higher of two.
-- Assumes nothing.
use mathlib.Core.Path.{◌≡◌, ap}
use mathlib.Core.Bool.{Bool, true, false, not}
use native.Mathlib.Nat.{le_trans, le_antisymm, le_of_lt}
use lib.Dec.{T, leb→le, le→leb, ltb→lt}
use lib.IntN.{ℤ, pos, negsuc}
use lib.Signed.{lt_z, le_z, ◌≤ℤ◌, lt_z_no, ≤ℤ_refl}
use Rattle.ascii.proofs.Choice.{picks}
use Rattle.feed.specs.Frame.{lower, higher}

trans : (a b c : ℤ) → T (le_z a b) → T (le_z b c) → T (le_z a c)
trans (pos a) (pos b) (pos c) h k = le→leb a c (le_trans (leb→le a b h) (leb→le b c k))
trans (pos a) (pos b) (negsuc c) h k = absurd k
trans (pos a) (negsuc b) c h k = absurd h
trans (negsuc a) (pos b) (pos c) h k = tt
trans (negsuc a) (pos b) (negsuc c) h k = absurd k
trans (negsuc a) (negsuc b) (pos c) h k = tt
trans (negsuc a) (negsuc b) (negsuc c) h k = le→leb c a (le_trans (leb→le c b k) (leb→le b a h))

pub le_through : (a b c : ℤ) → a ≤ℤ b → b ≤ℤ c → a ≤ℤ c
le_through a b c h k = record { le = trans a b c h.le k.le }

antisym : (a b : ℤ) → T (le_z a b) → T (le_z b a) → a ≡ b
antisym (pos a) (pos b) h k = ap pos (le_antisymm (leb→le a b h) (leb→le b a k))
antisym (pos a) (negsuc b) h k = absurd h
antisym (negsuc a) (pos b) h k = absurd k
antisym (negsuc a) (negsuc b) h k = ap negsuc (le_antisymm (leb→le a b k) (leb→le b a h))

pub le_same : (a b : ℤ) → a ≤ℤ b → b ≤ℤ a → a ≡ b
le_same a b h k = antisym a b h.le k.le

lt_le : (a b : ℤ) → T (lt_z a b) → T (le_z a b)
lt_le (pos a) (pos b) h = le→leb a b (le_of_lt (ltb→lt a b h))
lt_le (pos a) (negsuc b) h = h
lt_le (negsuc a) (pos b) h = h
lt_le (negsuc a) (negsuc b) h = le→leb b a (le_of_lt (ltb→lt b a h))

is_yes : (t : Bool) → t ≡ true → T t
is_yes t e = rw e tt

is_no : (t : Bool) → t ≡ false → T (not t)
is_no t e = rw e tt

module _ (a b : ℤ) where
  pub low_left : lower a b ≤ℤ a
  unfolding lower
  low_left = picks (λ (n : ℤ). n ≤ℤ a) (lt_z b a) b a (λ e. record { le = lt_le b a (is_yes _ e) }) (λ _. ≤ℤ_refl a)

  pub low_right : lower a b ≤ℤ b
  unfolding lower
  low_right = picks (λ (n : ℤ). n ≤ℤ b) (lt_z b a) b a (λ _. ≤ℤ_refl b) (λ e. lt_z_no (is_no _ e))

  pub high_left : a ≤ℤ higher a b
  unfolding higher
  high_left = picks (λ (n : ℤ). a ≤ℤ n) (lt_z a b) b a (λ e. record { le = lt_le a b (is_yes _ e) }) (λ _. ≤ℤ_refl a)

  pub high_right : b ≤ℤ higher a b
  unfolding higher
  high_right = picks (λ (n : ℤ). b ≤ℤ n) (lt_z a b) b a (λ _. ≤ℤ_refl b) (λ e. lt_z_no (is_no _ e))
