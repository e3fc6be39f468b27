-- The pieces of a line one by one. Assumes nothing.
use Prim.Native.Nat.{ℕ, zero, suc, ◌+◌, ◌<◌, ◌≤◌}
use mathlib.Core.List.{List, [], ◌∷◌, ◌++◌, map}
use mathlib.Core.Path.{◌≡◌, refl, sym, ◌∙◌, ap}
use native.Mathlib.Numerals.{add-one}
use native.Mathlib.Omega.{arith}
use lib.ListN.{length, get_or, take}
use Rattle.std.proofs.Common.{append_assoc, append-nil}
use Rattle.std.specs.List.{concat}
use Rattle.verdicts.specs.Printed.{spaced, pieces_of}

-- one more of the pieces
concat_more : (xs : List (List ℕ)) (i : ℕ) → i < length xs → concat (take i xs) ++ get_or xs i [] ≡ concat (take (suc i) xs)
concat_more [] i h = absurd (omega arith)
concat_more (x ∷ xs) zero h = sym (append-nil x)
concat_more (x ∷ xs) (suc i) h = append_assoc x (concat (take i xs)) (get_or xs i []) ∙ ap (λ l. x ++ l) (concat_more xs i (omega arith))

spaced_at : (ns : List ℕ) (i : ℕ) → i < length ns → get_or (map spaced ns) i [] ≡ spaced (get_or ns i 0)
spaced_at [] i h = absurd (omega arith)
spaced_at (n ∷ ns) zero h = refl
spaced_at (n ∷ ns) (suc i) h = spaced_at ns i (omega arith)

-- each piece but the first has a blank
piece_at : (ns : List ℕ) (i : ℕ) → 1 ≤ i → i < length ns → get_or (pieces_of ns) i [] ≡ spaced (get_or ns i 0)
piece_at [] i l h = absurd (omega arith)
piece_at (n ∷ ns) zero l h = absurd (omega arith)
piece_at (n ∷ ns) (suc i) l h = spaced_at ns i (omega arith)

count_spaced : (ns : List ℕ) → length (map spaced ns) ≡ length ns
count_spaced [] = refl
count_spaced (n ∷ ns) = ap suc (count_spaced ns)

count : (ns : List ℕ) → length (pieces_of ns) ≡ length ns
count [] = refl
count (n ∷ ns) = ap suc (count_spaced ns)

pub next_piece : (ns : List ℕ) (i : ℕ) → 1 ≤ i → i < length ns
    → concat (take i (pieces_of ns)) ++ spaced (get_or ns i 0) ≡ concat (take (i + 1) (pieces_of ns))
next_piece ns i l h =
    ap (λ (x : List ℕ). concat (take i (pieces_of ns)) ++ x) (sym (piece_at ns i l h))
    ∙ concat_more (pieces_of ns) i (omega (arith, count ns))
    ∙ ap (λ (n : ℕ). concat (take n (pieces_of ns))) (sym (add-one i))
