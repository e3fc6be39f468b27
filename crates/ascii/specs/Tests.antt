-- Tests of bytes, and the one way in which the definitions choose.
use Rattle.std.specs.Prelude.{ℕ, Bool, true, false, not, leb, ltb, eqb}
use Rattle.ascii.specs.Bytes.{byte}

-- x where the test holds, else y
abbrev pub pick {ℓ} : {A : Type ℓ} → Bool → A → A → A
pick true x y = x
pick false x y = y

-- both tests hold; one of them does; both do or neither does; two numbers are the same
unfoldable pub both : Bool → Bool → Bool
both a b = pick a b false

unfoldable pub either : Bool → Bool → Bool
either a b = pick a true b

abbrev pub alike : Bool → Bool → Bool
alike a b = pick a b (not b)

unfoldable pub same : ℕ → ℕ → Bool
same a b = eqb a b

-- a byte from lo to hi
unfoldable pub between : ℕ → ℕ → ℕ → Bool
between lo hi b = pick (ltb b lo) false (leb b hi)

-- 0-9
abbrev pub is_digit : ℕ → Bool
is_digit b = between (byte "0") (byte "9") b

-- A-Z
abbrev pub is_upper : ℕ → Bool
is_upper b = between (byte "A") (byte "Z") b

-- A-Z and 0-9
abbrev pub is_code : ℕ → Bool
is_code b = either (is_upper b) (is_digit b)
