-- Digits, and numbers one more than another. Assumes nothing.
use mathlib.Core.Path.{◌≡◌}
use mathlib.Core.Bool.{true}
use Prim.Native.Nat.{ℕ, suc, ◌-◌, ◌≤◌, ◌<◌}
use native.Mathlib.Omega.{arith}
use Rattle.ascii.specs.Tests.{is_digit}
use Rattle.ascii.proofs.Choice.{between_low, between_high}

-- n in code against suc n in a definition
pub down : (n : ℕ) → (n ≡ 0 → ⊥) → n ≡ suc (n - 1)
down n h = omega arith

pub digit_low : (b : ℕ) → is_digit b ≡ true → 48 ≤ b
digit_low b h = between_low 48 57 b h

pub digit_high : (b : ℕ) → is_digit b ≡ true → b < 58
digit_high b h = let k = between_high 48 57 b h in omega arith
