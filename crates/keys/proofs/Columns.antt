-- Pieces with the same number have the same columns. Assumes nothing.
use Prim.Native.Nat.{ℕ, zero, suc, ◌+◌, ◌≤◌, ◌<◌}
use mathlib.Core.List.{List}
use mathlib.Core.Logic.{⊎_elim}
use mathlib.Core.Path.{◌≡◌, refl, ◌∙◌}
use native.Mathlib.Nat.{eq-or-lt_of_le}
use native.Mathlib.Omega.{arith}
use lib.ListN.{get_or, take, drop}
use lib.Seq.{get_or-take, get_or-drop}
use Rattle.columns.specs.Columns.{cols}
use Rattle.words.specs.Words.{word_at}
use Rattle.keys.specs.Keys.{home_of, body_of}

-- a word of some columns is that word of the line
cols_byte : (l : List ℕ) (at n k : ℕ) → k < n → get_or (cols l at n) k 0 ≡ get_or l (at + k) 0
cols_byte l at n k h = get_or-take n (drop at l) k 0 h ∙ get_or-drop at l k 0

pub word_cols : (l : List ℕ) (at n p m : ℕ) → p + m ≤ n → word_at l (at + p) m ≡ word_at (cols l at n) p m
unfolding word_at
word_cols l at n p zero h = refl
word_cols l at n p (suc m) h =
    let e : at + p + m ≡ at + (p + m) = omega arith in
    rw (word_cols l at n p m (omega arith), cols_byte l at n (p + m) (omega arith), e)

-- two pieces of bytes have the same ones at the indices from lo up to hi
abbrev pub Bytes : List ℕ → Type 0
Bytes p = (k : ℕ) → k < 80 → get_or p k 0 < 256

abbrev pub Alike : List ℕ → List ℕ → ℕ → ℕ → Type 0
Alike p q lo hi = (k : ℕ) → lo ≤ k → k < hi → get_or p k 0 ≡ get_or q k 0

word_alike : (p q : List ℕ) (at n : ℕ) → Bytes p → Bytes q → at + n ≤ 80 → word_at (take 80 p) at n ≡ word_at (take 80 q) at n → Alike p q at (at + n)
unfolding word_at
word_alike p q at zero f g s e k l h = absurd (omega arith)
word_alike p q at (suc n) f g s e k l h =
    let x = get_or-take 80 p (at + n) 0 (omega arith) in
    let y = get_or-take 80 q (at + n) 0 (omega arith) in
    let u = f (at + n) (omega arith) in
    let v = g (at + n) (omega arith) in
    let w : word_at (take 80 p) at n ≡ word_at (take 80 q) at n = omega arith in
    let b : get_or p (at + n) 0 ≡ get_or q (at + n) 0 = omega arith in
    let m : k ≤ at + n = omega arith in
    ⊎_elim (λ z. rw z b) (λ z. word_alike p q at n f g (omega arith) w k l z) (eq-or-lt_of_le m)

pub home_alike : (p q : List ℕ) → Bytes p → Bytes q → home_of p ≡ home_of q → Alike p q 21 27
unfolding home_of
home_alike p q f g e = word_alike p q 21 6 f g (omega arith) e

pub body_alike : (p q : List ℕ) → Bytes p → Bytes q → body_of p ≡ body_of q → Alike p q 12 20
unfolding body_of
body_alike p q f g e = word_alike p q 12 8 f g (omega arith) e
