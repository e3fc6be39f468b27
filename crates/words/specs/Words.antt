-- Free text held as one number: its bytes to the base 256.
use Rattle.std.specs.Prelude.{◌+◌, ◌*◌, ◌/◌, ◌%◌, ◌∷◌, ◌++◌}
use Rattle.ascii.specs.Library.{ℕ, zero, suc, List, [], Bool, get_or, eqb, byte, both, between}
use Rattle.columns.specs.Columns.{blame, clean_at}
use Rattle.fields.specs.Format.{Format, sole}

-- the word in n columns from index `at`
unfoldable pub word_at : List ℕ → ℕ → ℕ → ℕ
word_at l at zero = 0
word_at l at (suc n) = 256 * word_at l at n + get_or l (at + n) 0

-- the n bytes of a word
unfoldable pub bytes_of : ℕ → ℕ → List ℕ
bytes_of zero v = []
bytes_of (suc n) v = bytes_of n (v / 256) ++ ((v % 256) ∷ [])

-- it has no more than n bytes, and each is 32 to 126
unfoldable pub clean_of : ℕ → ℕ → Bool
clean_of zero v = eqb v 0
clean_of (suc n) v = both (clean_of n (v / 256)) (between (byte " ") (byte "~") (v % 256))

-- n free columns
abbrev pub word_f : ℕ → Format ℕ
word_f n = sole n (λ l at. blame (clean_at l at n) at) (λ l at. word_at l at n) (bytes_of n) (clean_of n)
