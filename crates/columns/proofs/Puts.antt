-- Writing columns one after the other, from the left.
-- Assumes nothing.
use mathlib.Core.Path.{◌≡◌, refl, sym, ◌∙◌, ap, subst}
use mathlib.Core.List.{List, [], ◌∷◌, ◌++◌, append_assoc, append-nil}
use Prim.Native.Nat.{ℕ, zero, suc, ◌+◌, ◌-◌, ◌≤◌}
use native.Mathlib.Omega.{arith}
use native.Mathlib.Nat.{add-suc, add-zero, add_assoc}
use native.Mathlib.Numerals.{add-one}
use lib.ListN.{length, take, drop, set, length-append, length-drop}
use lib.Seq.{take-suc-set, drop-set-lt, drop-drop, take_at, length-take-le}
use borrow.Rule.Slice.PartMut.{put_mid, drop_put}
use Rattle.std.specs.Prelude.{replicate}
use Rattle.columns.specs.Columns.{Put, blanks}
use Rattle.columns.proofs.Spans.{blanks_length}

pub none_put : (l : List ℕ) (at : ℕ) → Put l at 0 [] l
none_put l at = record { front = rw add-zero (sym (append-nil (take at l))); rest = refl }

pub drop_more : (l l' : List ℕ) (i j : ℕ) → i ≤ j → drop i l' ≡ drop i l → drop j l' ≡ drop j l
drop_more l l' i j h e =
    let k : i + (j - i) ≡ j = omega arith in
    subst (λ (j : ℕ). drop j l' ≡ drop j l) k (sym (drop-drop (j - i) i l') ∙ ap (drop (j - i)) e ∙ drop-drop (j - i) i l)

-- one byte more
pub put_snoc : (l l1 l2 : List ℕ) (at n : ℕ) (x : List ℕ) (c : ℕ) → at + suc n ≤ length l → length l1 ≡ length l → Put l at n x l1 → l2 ≡ set l1 (at + n) c → Put l at (suc n) (x ++ (c ∷ [])) l2
put_snoc l l1 l2 at n x c h k p e =
    rw e
    (record {
      front = rw add-suc (take-suc-set l1 (at + n) c (omega arith) ∙ ap (λ y. y ++ (c ∷ [])) p.front ∙ append_assoc (take at l) x (c ∷ []));
      rest = drop-set-lt (at + suc n) l1 (at + n) c (omega arith) ∙ drop_more l l1 (at + n) (at + suc n) (omega arith) p.rest;
    })

pub one_put : (l : List ℕ) (at b : ℕ) → at + 1 ≤ length l → Put l at 1 (b ∷ []) (set l at b)
one_put l at b h =
    record {
      front = rw add-one (take-suc-set l at b (omega arith));
      rest = drop-set-lt (at + 1) l at b (omega arith);
    }

-- one run of columns after another
pub put_then : {l l1 l2 : List ℕ} {at m n : ℕ} {x y : List ℕ} → Put l at m x l1 → Put l1 (at + m) n y l2 → Put l at (m + n) (x ++ y) l2
put_then {l} {l1} {l2} {at} {m} {n} {x} {y} p q =
    record {
      front = ap (λ i. take i l2) (sym (add_assoc at m n)) ∙ q.front ∙ ap (λ z. z ++ y) p.front ∙ append_assoc (take at l) x y;
      rest =
          ap (λ i. drop i l2) (sym (add_assoc at m n)) ∙ q.rest ∙ ap (λ i. drop i l1) (add_assoc at m n)
          ∙ drop_more l l1 (at + m) (at + (m + n)) (omega arith) p.rest;
    }

-- a run of columns written over with as many bytes
pub mid_put : (n : ℕ) (l x : List ℕ) (at : ℕ) → at + n ≤ length l → length x ≡ n → Put l at n x (put_mid at (at + n - at) l x)
mid_put n l x at h e =
    record {
      front =
          ap (take (at + n)) (sym (append_assoc (take at l) x _))
          ∙ take_at (take at l ++ x) _ (at + n) (length-append (take at l) x ∙ omega (arith, length-take-le at l (omega arith)));
      rest = drop_put at (at + n) l x (omega arith) h (omega arith);
    }

-- as many blanks
blanks_more : (n : ℕ) → replicate {A = ℕ} (suc n) 32 ≡ replicate {A = ℕ} n 32 ++ (32 ∷ [])
blanks_more zero = refl
blanks_more (suc n) = ap (λ (x : List ℕ). 32 ∷ x) (blanks_more n)

pub blanks_alike : (n : ℕ) → replicate {A = ℕ} n 32 ≡ blanks n
unfolding blanks
blanks_alike zero = refl
blanks_alike (suc n) = blanks_more n ∙ ap (λ (x : List ℕ). x ++ (32 ∷ [])) (blanks_alike n)

pub blanks_put : (n : ℕ) (l x : List ℕ) (at k : ℕ) → at + n ≤ length l → k ≡ n → x ≡ replicate {A = ℕ} k 32 → Put l at n (blanks n) (put_mid at (at + n - at) l x)
blanks_put n l x at k h z e = rw (e, z, blanks_alike n) (mid_put n l (blanks n) at h (blanks_length n))

-- as long as the run is what is written over
pub part_long : (n : ℕ) (l : List ℕ) (at : ℕ) → at + n ≤ length l → length (take (at + n - at) (drop at l)) ≡ n
part_long n l at h = length-take-le (at + n - at) (drop at l) (omega (arith, length-drop at l)) ∙ omega arith
