-- What a filter of stamps has, and what is known of lines by their stamps.
-- Assumes nothing.
use Prim.Native.Nat.{ℕ, ◌+◌, ◌*◌, ◌≤◌, ◌<◌}
use mathlib.Core.Bool.{Bool, true, false}
use mathlib.Core.List.{List}
use mathlib.Core.Path.{◌≡◌, refl, sym, ◌∙◌, ap₂}
use native.Mathlib.Omega.{arith}
use lib.Dec.{eqb}
use lib.ListN.{length, get_or, set, take, drop}
use lib.Seq.{get_or-set_same, get_or-set_other, get_or-take, get_or-drop}
use borrow.Author.Tests.{eqb-true, eqb-false, eq-eqb, ne_eqb}
use Rattle.ascii.specs.Tests.{either}
use Rattle.ascii.proofs.Choice.{never, picks, either_left, either_right, either_split}
use Rattle.rows.specs.Text.{piece_at}
use Rattle.keys.specs.Keys.{home_of, body_of, home_at, body_at}
use Rattle.keys.proofs.Columns.{Bytes, Alike, home_alike, body_alike}
use Rattle.ahead.specs.Stamps.{pair_of, quad_of, stamp_of, stamp_at, place_of, tag_of, put_of, marks, Marked, Without}

-- a value tells of a tag: it is the tag, or it is 255
abbrev tells : ℕ → ℕ → Bool
tells v x = either (eqb v x) (eqb v 255)

place_low : (z : ℕ) → place_of z < 512
unfolding place_of
place_low z = omega arith

tag_high : (z : ℕ) → 0 < tag_of z
unfolding tag_of
tag_high z = omega arith

-- what is put at a place tells of the tag, and of each tag that was told of before
put_tells : (v tag : ℕ) → tells (put_of v tag) tag ≡ true
unfolding put_of
put_tells v tag =
    let here : tells tag tag ≡ true = either_left _ _ (eq-eqb tag tag refl) in
    picks (λ (r : ℕ). tells r tag ≡ true) (eqb v 0) _ _ (λ _. here)
    (λ _. picks (λ (r : ℕ). tells r tag ≡ true) (eqb v tag) _ _ (λ _. here) (λ _. either_right _ _ refl))

put_keeps : (v tag x : ℕ) → 0 < x → tells v x ≡ true → tells (put_of v tag) x ≡ true
unfolding put_of
put_keeps v tag x h e =
    picks (λ (r : ℕ). tells r x ≡ true) (eqb v 0) _ _
    (λ q. let z : v ≡ 0 = eqb-true v 0 q in
    either_split (eqb v x) (eqb v 255) (λ s. absurd (omega (arith, eqb-true v x s))) (λ s. absurd (omega (arith, eqb-true v 255 s))) e)
    (λ _. picks (λ (r : ℕ). tells r x ≡ true) (eqb v tag) _ _ (λ q. rw (eqb-true v tag q) at e) (λ _. either_right _ _ refl))

-- a stamp that is put into the filter is marked
pub mark_here : (f : List ℕ) (z at v : ℕ) → length f ≡ 512 → at ≡ place_of z → v ≡ put_of (get_or f at 0) (tag_of z) → marks (set f at v) z ≡ true
unfolding marks
mark_here f z at v n h e =
    let l : at < length f = omega (arith, place_low z) in
    rw (← h, get_or-set_same f at v 0 l, e) (put_tells (get_or f at 0) (tag_of z))

-- and no mark is taken away
pub mark_kept : (f : List ℕ) (z at v x : ℕ) → length f ≡ 512 → at ≡ place_of z → v ≡ put_of (get_or f at 0) (tag_of z) → marks f x ≡ true → marks (set f at v) x ≡ true
unfolding marks
mark_kept f z at v x n h e m =
    let l : at < length f = omega (arith, place_low z) in
    picks (λ (_ : ℕ). tells (get_or (set f at v) (place_of x) 0) (tag_of x) ≡ true) (eqb (place_of x) at) 0 0
    (λ q. let s : place_of x ≡ at = eqb-true _ _ q in
    rw (s, get_or-set_same f at v 0 l, e) (put_keeps (get_or f at 0) (tag_of z) (tag_of x) (tag_high x) (rw s at m)))
    (λ q. rw (get_or-set_other f at (place_of x) v 0 (eqb-false _ _ q)) m)

-- a place that does not tell of a stamp has no mark of it
pub untold : (f : List ℕ) (z at tag : ℕ) → at ≡ place_of z → tag ≡ tag_of z → (get_or f at 0 ≡ tag → ⊥) → (get_or f at 0 ≡ 255 → ⊥) → marks f z ≡ false
unfolding marks either
untold f z at tag h g p q = rw (← h, ← g, ne_eqb (get_or f at 0) tag p, ne_eqb (get_or f at 0) 255 q)

-- a stamp that is not marked is that of no marked line
pub unmarked : (t f : List ℕ) (b e z : ℕ) → Marked t b e f → marks f z ≡ false → Without t b e z
unmarked t f b e z m h p l s q = let w : marks f z ≡ true = rw q (m p l s) in never (sym h ∙ w)

-- lines with the same columns have the same stamp
pair_same : (p q : List ℕ) (lo hi k : ℕ) → Alike p q lo hi → lo ≤ k → k + 2 ≤ hi → pair_of p k ≡ pair_of q k
unfolding pair_of
pair_same p q lo hi k a l h = ap₂ (λ (x y : ℕ). x + 256 * y) (a k l (omega arith)) (a (k + 1) (omega arith) (omega arith))

quad_same : (p q : List ℕ) (lo hi k : ℕ) → Alike p q lo hi → lo ≤ k → k + 4 ≤ hi → quad_of p k ≡ quad_of q k
unfolding quad_of
quad_same p q lo hi k a l h =
    ap₂ (λ (x y : ℕ). x + 65536 * y) (pair_same p q lo hi k a l (omega arith)) (pair_same p q lo hi (k + 2) a (omega arith) (omega arith))

stamp_alike : (p q : List ℕ) → Bytes p → Bytes q → home_of p ≡ home_of q → body_of p ≡ body_of q → stamp_of p ≡ stamp_of q
unfolding stamp_of
stamp_alike p q f g h e =
    let n : Alike p q 21 27 = home_alike p q f g h in
    let m : Alike p q 12 20 = body_alike p q f g e in
    rw (quad_same p q 21 27 23 n (omega arith) (omega arith), pair_same p q 21 27 21 n (omega arith) (omega arith), quad_same p q 12 20 16 m (omega arith) (omega arith), quad_same p q 12 20 12 m (omega arith) (omega arith))

piece_bytes : (t : List ℕ) (i : ℕ) → ((k : ℕ) → get_or t k 0 < 256) → Bytes (piece_at t i)
unfolding piece_at
piece_bytes t i f k h =
    let e : get_or (take 81 (drop (81 * i) t)) k 0 ≡ get_or t (81 * i + k) 0 = get_or-take 81 (drop (81 * i) t) k 0 (omega arith) ∙ get_or-drop (81 * i) t k 0 in
    omega (arith, f (81 * i + k))

pub stamp_same : (t : List ℕ) (i p : ℕ) → ((k : ℕ) → get_or t k 0 < 256) → home_at t i ≡ home_at t p → body_at t i ≡ body_at t p → stamp_at t i ≡ stamp_at t p
stamp_same t i p f h g = stamp_alike _ _ (piece_bytes t i f) (piece_bytes t p f) h g
