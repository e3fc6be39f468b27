-- One law for each `return`, and for the loop. Assumes nothing.
use mathlib.Core.Path.{◌≡◌, refl, ◌∙◌, ap}
use mathlib.Core.List.{List}
use mathlib.Core.Bool.{Bool, ◌&&◌}
use Prim.Native.Nat.{ℕ, suc, ◌+◌, ◌*◌, ◌-◌, ◌/◌, ◌%◌, ◌^◌, ◌≤◌, ◌<◌}
use native.Mathlib.Omega.{arith}
use native.Mathlib.Numerals.{add-one}
use native.Mathlib.Nat.{pow-le-pow_right, pow-suc, lt_of_lt_of_le}
use lib.ListN.{length, get_or, set, take, drop, length-drop, length-take}
use lib.Seq.{get_or-take, get_or-drop}
use lib.Dec.{eqb, lit<}
use Rattle.ascii.specs.Tests.{between}
use Rattle.ascii.proofs.Bools.{and_both}
use Rattle.columns.specs.Columns.{Put}
use Rattle.columns.proofs.Puts.{none_put, put_snoc}
use Rattle.numbers.proofs.Steps.{down}
use Rattle.words.specs.Words.{word_at, bytes_of, clean_of}

-- ---- how large a word of i bytes is
pub word_room : (w i n : ℕ) → w < 256 ^ i → i < n → n ≤ 8 → w < 72057594037927936
word_room w i n h k m = let j : i ≤ 7 = omega arith in lt_of_lt_of_le h (pow-le-pow_right (lit< tt) j)

pub word_more : (w b i : ℕ) → w < 256 ^ i → b < 256 → 256 * w + b < 256 ^ (i + 1)
word_more w b i h k = rw (add-one, pow-suc) (omega arith)

-- ---- byte i of the n columns from `at`, cut out of the line
pub cut_byte : (l : List ℕ) (at n i : ℕ) → i < at + n - at → get_or (take (at + n - at) (drop at l)) i 0 ≡ get_or l (at + i) 0
cut_byte l at n i h = get_or-take (at + n - at) (drop at l) i 0 h ∙ get_or-drop at l i 0

pub cut_length : (l : List ℕ) (at n : ℕ) → at + n ≤ length l → length (take (at + n - at) (drop at l)) ≡ n
cut_length l at n h = omega (arith, length-take (at + n - at) (drop at l), length-drop at l)

module _ (l : List ℕ) (at n : ℕ) where
  pub word_start : 0 ≡ word_at l at 0
  unfolding word_at
  word_start = refl

  pub word_next : (i w : ℕ) → w ≡ word_at l at i → 256 * w + get_or l (at + i) 0 ≡ word_at l at (i + 1)
  unfolding word_at
  word_next i w e = rw add-one (ap (λ y. 256 * y + get_or l (at + i) 0) e)

  pub word_end : (i w : ℕ) → i ≤ n → n ≤ i → w ≡ word_at l at i → w ≡ word_at l at n
  word_end i w a b e = let q : i ≡ n = omega arith in e ∙ ap (word_at l at) q

  pub bytes_none : (v : ℕ) → n ≡ 0 → Put l at n (bytes_of n v) l
  unfolding bytes_of
  bytes_none v z = rw z (none_put l at)

  pub bytes_some : (l1 l2 : List ℕ) (v : ℕ) → (n ≡ 0 → ⊥) → at + n ≤ length l → length l1 ≡ length l → Put l at (n - 1) (bytes_of (n - 1) (v / 256)) l1 → l2 ≡ set l1 (at + (n - 1)) (v % 256) → Put l at n (bytes_of n v) l2
  unfolding bytes_of
  bytes_some l1 l2 v z h k p e =
      let g : at + suc (n - 1) ≤ length l = omega arith in
      rw (down n z) (put_snoc l l1 l2 at (n - 1) (bytes_of (n - 1) (v / 256)) (v % 256) g k p e)

pub number_none : (n v : ℕ) → n ≡ 0 → eqb v 0 ≡ clean_of n v
unfolding clean_of
number_none n v z = rw z

pub number_some : (n v : ℕ) (a b : Bool) → (n ≡ 0 → ⊥) → a ≡ clean_of (n - 1) (v / 256) → b ≡ between 32 126 (v % 256) → (a && b) ≡ clean_of n v
unfolding clean_of
number_some n v a b z p q = rw (down n z) (and_both a b ∙ rw (p, q))
