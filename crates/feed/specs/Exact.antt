-- The double that is exactly z / 2 ^ l. Nothing here rounds: `odd` of lib.Ieee only divides the closing zeros out of the number and
-- counts them in the exponent, as the one way to write a float asks. Its value is z / 2 ^ l, and no other double's (Promise.antt).
use Rattle.ascii.specs.Library.{ℕ, suc, true, false, ℤ, pos, negsuc}
use Rattle.std.specs.Prelude.{Float}
use Rattle.std.specs.Float.Ieee.{odd}

unfoldable pub exactly : ℤ → ℕ → Float
unfolding odd
exactly (pos n) l = odd 53 false n 0 l
exactly (negsuc n) l = odd 53 true (suc n) 0 l

-- the number itself
abbrev pub whole : ℤ → Float
whole z = exactly z 0

-- its half
abbrev pub half : ℤ → Float
half z = exactly z 1
