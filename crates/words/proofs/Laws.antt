-- The law of free text, over the width. Assumes nothing.
use mathlib.Core.Path.{◌≡◌, refl, sym, ◌∙◌, ap, ap₂}
use mathlib.Core.List.{List, [], ◌∷◌, ◌++◌}
use mathlib.Core.Bool.{true}
use Prim.Native.Nat.{ℕ, zero, suc, ◌+◌, ◌*◌, ◌/◌, ◌%◌, ◌≤◌, ◌<◌}
use native.Mathlib.Omega.{arith}
use lib.ListN.{length, get_or, length-append}
use borrow.Author.Tests.{eqb-true}
use Rattle.ascii.specs.Tests.{between}
use Rattle.ascii.proofs.Choice.{both_split, both_join, between_high}
use Rattle.ascii.proofs.Clean.{Clean, clean_append}
use Rattle.columns.specs.Columns.{cols, clean_at}
use Rattle.columns.proofs.Faults.{blame_none, blame_good}
use Rattle.columns.proofs.Spans.{cols_suc, cols_init, cols_last}
use Rattle.fields.proofs.Sides.{blame_first}
use Rattle.fields.proofs.Formats.{Lawful, single_lawful}
use Rattle.words.specs.Words.{word_at, bytes_of, clean_of, word_f}

pub bytes_length : (n v : ℕ) → length (bytes_of n v) ≡ n
unfolding bytes_of
bytes_length zero v = refl
bytes_length (suc n) v = let h = bytes_length n (v / 256) in length-append (bytes_of n (v / 256)) ((v % 256) ∷ []) ∙ omega arith

small : (b : ℕ) → between 32 126 b ≡ true → b < 256
small b e = let h = between_high 32 126 b e in omega arith

word_clean : (n v : ℕ) → clean_of n v ≡ true → Clean (bytes_of n v)
unfolding clean_of bytes_of
word_clean zero v k = tt
word_clean (suc n) v k =
    let w = both_split (clean_of n (v / 256)) (between 32 126 (v % 256)) k in
    clean_append (bytes_of n (v / 256)) ((v % 256) ∷ []) (word_clean n (v / 256) w.0) (w.1, tt)

word_back : (l : List ℕ) (at n v : ℕ) → clean_of n v ≡ true → cols l at n ≡ bytes_of n v → (clean_at l at n ≡ true) × (word_at l at n ≡ v)
unfolding clean_of bytes_of clean_at word_at
word_back l at zero v k q = (refl, sym (eqb-true v 0 k))
word_back l at (suc n) v k q =
    let w = both_split (clean_of n (v / 256)) (between 32 126 (v % 256)) k in
    let x = word_back l at n (v / 256) w.0 (cols_init l at n (bytes_of n (v / 256)) (v % 256) (bytes_length n (v / 256)) q) in
    let b = cols_last l at n (bytes_of n (v / 256)) (v % 256) (bytes_length n (v / 256)) q in
    let e : 256 * (v / 256) + v % 256 ≡ v = omega arith in
    (both_join _ _ x.0 (ap (between 32 126) b ∙ w.1), ap₂ (λ y z. 256 * y + z) x.1 b ∙ e)

-- clean columns are the bytes of their word
pub word_kept : (l : List ℕ) (at n : ℕ) → at + n ≤ length l → clean_at l at n ≡ true → (bytes_of n (word_at l at n) ≡ cols l at n) × (clean_of n (word_at l at n) ≡ true)
unfolding clean_of bytes_of clean_at word_at
word_kept l at zero h k = (refl, refl)
word_kept l at (suc n) h k =
    let w = both_split (clean_at l at n) (between 32 126 (get_or l (at + n) 0)) k in
    let x = word_kept l at n (omega arith) w.0 in
    let s = small (get_or l (at + n) 0) w.1 in
    let d : (256 * word_at l at n + get_or l (at + n) 0) / 256 ≡ word_at l at n = omega arith in
    let m : (256 * word_at l at n + get_or l (at + n) 0) % 256 ≡ get_or l (at + n) 0 = omega arith in
    rw (d, m) (ap (λ y. y ++ (get_or l (at + n) 0 ∷ [])) x.0 ∙ sym (cols_suc l at n h), both_join _ _ x.1 w.1)

pub word_lawful : {begin : ℕ} (n : ℕ) → Lawful (word_f n) begin
word_lawful n =
    single_lawful (record {
      long = bytes_length n;
      clean = word_clean n;
      back = λ l at v k q. let x = word_back l at n v k q in (blame_good _ at x.0, x.1);
      kept = λ l at h q. word_kept l at n h (blame_none _ at q);
      first = λ l at. blame_first (clean_at l at n) at;
      alone = λ l at. refl;
    })
