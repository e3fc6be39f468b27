-- Laws of the cut, and of lines by their index.
-- Assumes nothing.
use Prim.Native.Nat.{ℕ, suc, zero, ◌+◌, ◌*◌, ◌-◌, ◌≤◌, ◌<◌}
use mathlib.Core.List.{List, [], ◌∷◌}
use mathlib.Core.Path.{◌≡◌, refl, ◌∙◌, ap}
use native.Mathlib.Omega.{arith}
use lib.ListN.{length, take, drop, length-drop, drop_of_length-le}
use lib.Seq.{drop-drop, take_all, take-take}
use Rattle.rows.specs.Text.{cut, cut_at_most, piece_at}

cut_same : (k m : ℕ) (u : List ℕ) → length u ≤ k → length u ≤ m → cut_at_most k u ≡ cut_at_most m u
unfolding cut_at_most
cut_same zero zero [] h g = refl
cut_same zero (suc m) [] h g = refl
cut_same (suc k) zero [] h g = refl
cut_same (suc k) (suc m) [] h g = refl
cut_same zero m (b ∷ u) h g = absurd (omega arith)
cut_same (suc k) zero (b ∷ u) h g = absurd (omega arith)
cut_same (suc k) (suc m) (b ∷ u) h g =
    let e : length (drop 81 (b ∷ u)) ≤ length u = simp length-drop (omega arith) in
    ap (λ (r : List (List ℕ)). take 81 (b ∷ u) ∷ r) (cut_same k m (drop 81 (b ∷ u)) (omega arith) (omega arith))

pub cut_cons : (u : List ℕ) → 0 < length u → cut u ≡ take 81 u ∷ cut (drop 81 u)
unfolding cut cut_at_most
cut_cons [] h = absurd (omega arith)
cut_cons (b ∷ u) h =
    let e : length (drop 81 (b ∷ u)) ≤ length u = simp length-drop (omega arith) in
    ap (λ (r : List (List ℕ)). take 81 (b ∷ u) ∷ r) (cut_same (length u) (length (drop 81 (b ∷ u))) (drop 81 (b ∷ u)) e (omega arith))

-- at a line that has bytes, the cut of the rest is that line and the cut of what follows
pub cut_next : (t : List ℕ) (i : ℕ) → 81 * i < length t → cut (drop (81 * i) t) ≡ piece_at t i ∷ cut (drop (81 * (i + 1)) t)
unfolding piece_at
cut_next t i h =
    let n : 0 < length (drop (81 * i) t) = simp length-drop (omega arith) in
    let e : 81 * (i + 1) ≡ 81 * i + 81 = omega arith in
    cut_cons (drop (81 * i) t) n ∙ rw (e, drop-drop 81 (81 * i) t)

-- past the end nothing is left
pub cut_done : (t : List ℕ) (i : ℕ) → length t ≤ 81 * i → cut (drop (81 * i) t) ≡ []
unfolding cut cut_at_most
cut_done t i h = rw (drop_of_length-le t h)

-- a part of the text as it is lent: to the end where that is short, and 81 bytes otherwise
pub part_short : (t : List ℕ) (i : ℕ) → length t - 81 * i < 81 → take (length t - 81 * i) (drop (81 * i) t) ≡ piece_at t i
unfolding piece_at
part_short t i h =
    let e : length (drop (81 * i) t) ≤ length t - 81 * i = simp length-drop (omega arith) in
    let f : length (drop (81 * i) t) ≤ 81 = simp length-drop (omega arith) in
    rw (take_all (length t - 81 * i) (drop (81 * i) t) e, take_all 81 (drop (81 * i) t) f)

pub part_full : (t : List ℕ) (i : ℕ) → take (81 * i + 81 - 81 * i) (drop (81 * i) t) ≡ piece_at t i
unfolding piece_at
part_full t i =
    let e : 81 * i + 81 - 81 * i ≡ 81 = omega arith in
    rw e

-- its 80 columns
pub part_columns : (t : List ℕ) (i : ℕ) → take (81 * i + 80 - 81 * i) (drop (81 * i) t) ≡ take 80 (piece_at t i)
unfolding piece_at
part_columns t i =
    let e : 81 * i + 80 - 81 * i ≡ 80 = omega arith in
    rw (e, take-take 80 81 (drop (81 * i) t) (omega arith))
