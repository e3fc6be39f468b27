-- Stamps of lines, and a filter of stamps. (Nothing here is part of an answer.)
use Rattle.std.specs.Prelude.{◌+◌, ◌*◌, ◌/◌, ◌%◌, ◌≤◌, ◌<◌, ◌≡◌}
use Rattle.ascii.specs.Library.{ℕ, List, Bool, true, get_or, eqb, either, pick}
use Rattle.rows.specs.Text.{piece_at}

-- the bytes at two and at four indices of a piece from k on, as a number: the first is the lowest, so that it is one load
unfoldable pub pair_of : List ℕ → ℕ → ℕ
pair_of p k = get_or p k 0 + 256 * get_or p (k + 1) 0

unfoldable pub quad_of : List ℕ → ℕ → ℕ
quad_of p k = pair_of p k + 65536 * pair_of p (k + 2)

-- columns 13-20 and 22-27 of a piece drawn into one number: pieces with other columns are not likely to share it
unfoldable pub stamp_of : List ℕ → ℕ
stamp_of p = quad_of p 23 * 430894887 + pair_of p 21 * 870773345 + quad_of p 16 * 1033687299 + quad_of p 12 * 973642215

-- of line i
abbrev pub stamp_at : List ℕ → ℕ → ℕ
stamp_at t i = stamp_of (piece_at t i)

-- the place of a stamp in the filter
unfoldable pub place_of : ℕ → ℕ
place_of z = z / 524288 % 65536 * 2 / 256

-- what stands there if no other stamp has the place: never 0, which is an empty place
unfoldable pub tag_of : ℕ → ℕ
tag_of z = z / 131072 % 128 * 2 + 1

-- what stands at a place once a tag is put there: 255 if another was there before
unfoldable pub put_of : ℕ → ℕ → ℕ
put_of v tag = pick (eqb v 0) tag (pick (eqb v tag) tag 255)

-- a filter has a mark of the stamp z: where it has none, z was not put into it
unfoldable pub marks : List ℕ → ℕ → Bool
marks f z = either (eqb (get_or f (place_of z) 0) (tag_of z)) (eqb (get_or f (place_of z) 0) 255)

-- the stamps of the lines from b up to e are marked
abbrev pub Marked : List ℕ → ℕ → ℕ → List ℕ → Type 0
Marked t b e f = (p : ℕ) → b ≤ p → p < e → marks f (stamp_at t p) ≡ true

-- no line from b up to c has the stamp z
abbrev pub Without : List ℕ → ℕ → ℕ → ℕ → Type 0
Without t b c z = (p : ℕ) → b ≤ p → p < c → z ≡ stamp_at t p → ⊥

-- no line from a up to j has the stamp of a line from b up to c
abbrev pub Parted : List ℕ → ℕ → ℕ → ℕ → ℕ → Type 0
Parted t a j b c = (i : ℕ) → a ≤ i → i < j → Without t b c (stamp_at t i)
