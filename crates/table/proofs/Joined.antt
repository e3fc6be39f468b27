-- Pieces of 81 bytes: joined and cut again they are the same pieces; the pieces of an accepted text are such, and it has no other bytes.
-- Assumes nothing.
use Prim.Native.Nat.{ℕ, zero, suc, ◌*◌, ◌<◌}
use mathlib.Core.List.{List, [], ◌∷◌, ◌++◌}
use mathlib.Core.Path.{◌≡◌, refl, sym, ◌∙◌, ap}
use native.Mathlib.Omega.{arith}
use lib.ListN.{length, take, drop, length-take, length-drop, length-append}
use lib.Seq.{take_at, drop_at}
use Rattle.rows.specs.Text.{cut, cut_at_most}
use Rattle.gate.specs.Gate.{check_of}
use Rattle.rows.proofs.Cut.{cut_cons}
use Rattle.gate.proofs.Runs.{answered}

-- pieces one after the other
abbrev pub join : List (List ℕ) → List ℕ
join [] = []
join (p ∷ ps) = p ++ join ps

-- every piece has 81 bytes
abbrev pub All81 : List (List ℕ) → Type 0
All81 [] = Unit {0}
All81 (p ∷ ps) = (length p ≡ 81) × All81 ps

pub cut_join : (ps : List (List ℕ)) → All81 ps → cut (join ps) ≡ ps
unfolding cut cut_at_most
cut_join [] a = refl
cut_join (p ∷ ps) a =
    let h : 0 < length (p ++ join ps) = simp length-append (omega arith) in
    cut_cons (p ++ join ps) h ∙ rw (take_at p (join ps) 81 a.0, drop_at p (join ps) 81 a.0, cut_join ps a.1)

whole_pieces : (n : ℕ) (t : List ℕ) → length t ≡ 81 * n → All81 (cut t)
unfolding cut cut_at_most
whole_pieces zero [] h = tt
whole_pieces zero (b ∷ t) h = absurd (omega arith)
whole_pieces (suc n) t h =
    let one : length (take 81 t) ≡ 81 = simp length-take (omega arith) in
    let rest : length (drop 81 t) ≡ 81 * n = simp length-drop (omega arith) in
    rw (cut_cons t (omega arith)) (one, whole_pieces n (drop 81 t) rest)

pub accepted_81 : (t : List ℕ) → (check_of t).number ≡ 0 → All81 (cut t)
accepted_81 t e = whole_pieces (check_of t).good t ((answered t).granted e).1

-- a text of n whole pieces is cut into n
pub cut_size : (n : ℕ) (t : List ℕ) → length t ≡ 81 * n → length (cut t) ≡ n
unfolding cut cut_at_most
cut_size zero [] h = refl
cut_size zero (b ∷ t) h = absurd (omega arith)
cut_size (suc n) t h =
    let rest : length (drop 81 t) ≡ 81 * n = simp length-drop (omega arith) in
    ap length (cut_cons t (omega arith)) ∙ ap suc (cut_size n (drop 81 t) rest)

pub accepted_size : (t : List ℕ) → (check_of t).number ≡ 0 → length t ≡ 81 * length (cut t)
accepted_size t e =
    let g : length t ≡ 81 * (check_of t).good = ((answered t).granted e).1 in
    g ∙ ap (λ (n : ℕ). 81 * n) (sym (cut_size (check_of t).good t g))
