-- Columns side by side, blank columns, clean columns.
-- Assumes nothing.
use mathlib.Core.Path.{◌≡◌, refl, sym, ◌∙◌, ap, ap₂}
use mathlib.Core.List.{List, [], ◌∷◌, ◌++◌, append_cancel_left}
use mathlib.Core.Bool.{Bool, true, false}
use Prim.Native.Nat.{ℕ, zero, suc, ◌+◌, ◌≤◌, ◌<◌}
use native.Mathlib.Omega.{arith}
use lib.Dec.{eqb}
use lib.ListN.{length, get_or, take, drop, length-append, length-drop}
use lib.Seq.{take-suc, take-take, take-add, take_at, drop-drop, get_or-drop, get_or-take, get_or_at}
use borrow.Author.Tests.{eqb-true, eq-eqb, eqb-false}
use Rattle.ascii.proofs.Choice.{picks, both_join, both_split}
use Rattle.ascii.proofs.Clean.{Clean, clean_append, clean_at_lem, fine}
use Rattle.columns.specs.Columns.{cols, blank_at, gap_of, clean_at, first_of, blanks}
use Rattle.columns.proofs.Faults.{first_split}

-- ---- one column more
pub cols_suc : (l : List ℕ) (at n : ℕ) → at + suc n ≤ length l → cols l at (suc n) ≡ cols l at n ++ (get_or l (at + n) 0 ∷ [])
cols_suc l at n h =
    take-suc (drop at l) n 0 (omega (arith, length-drop at l)) ∙ ap (λ x. cols l at n ++ (x ∷ [])) (get_or-drop at l n 0)

pub cols_init : (l : List ℕ) (at n : ℕ) (x : List ℕ) (c : ℕ) → length x ≡ n → cols l at (suc n) ≡ x ++ (c ∷ []) → cols l at n ≡ x
cols_init l at n x c h e = sym (take-take n (suc n) (drop at l) (omega arith)) ∙ ap (take n) e ∙ take_at x (c ∷ []) n h

pub cols_last : (l : List ℕ) (at n : ℕ) (x : List ℕ) (c : ℕ) → length x ≡ n → cols l at (suc n) ≡ x ++ (c ∷ []) → get_or l (at + n) 0 ≡ c
cols_last l at n x c h e =
    sym (get_or-drop at l n 0) ∙ sym (get_or-take (suc n) (drop at l) n 0 (omega arith)) ∙ ap (λ y. get_or y n 0) e ∙ get_or_at x c [] 0 n h

pub snoc_length : (x : List ℕ) (c n : ℕ) → length x ≡ n → length (x ++ (c ∷ [])) ≡ suc n
snoc_length x c n h = length-append x (c ∷ []) ∙ omega arith

-- ---- one run of columns after another
pub cols_add : (l : List ℕ) (at m n : ℕ) → cols l at (m + n) ≡ cols l at m ++ cols l (at + m) n
cols_add l at m n = take-add m n (drop at l) ∙ ap (λ y. cols l at m ++ take n y) (drop-drop m at l)

pub cols_left : (l : List ℕ) (at m n : ℕ) (x y : List ℕ) → length x ≡ m → cols l at (m + n) ≡ x ++ y → cols l at m ≡ x
cols_left l at m n x y h e = sym (take-take m (m + n) (drop at l) (omega arith)) ∙ ap (take m) e ∙ take_at x y m h

pub cols_right : (l : List ℕ) (at m n : ℕ) (x y : List ℕ) → length x ≡ m → cols l at (m + n) ≡ x ++ y → cols l (at + m) n ≡ y
cols_right l at m n x y h e =
    append_cancel_left x (cols l (at + m) n) y
    (ap (λ z. z ++ cols l (at + m) n) (sym (cols_left l at m n x y h e)) ∙ sym (cols_add l at m n) ∙ e)

-- ---- blanks
pub blanks_length : (n : ℕ) → length (blanks n) ≡ n
unfolding blanks
blanks_length zero = refl
blanks_length (suc n) = snoc_length (blanks n) 32 n (blanks_length n)

pub blanks_clean : (n : ℕ) → Clean (blanks n)
unfolding blanks
blanks_clean zero = tt
blanks_clean (suc n) = clean_append (blanks n) (32 ∷ []) (blanks_clean n) (fine 32 (omega arith) (omega arith), tt)

pub blank_is : (l : List ℕ) (i : ℕ) → blank_at l i ≡ 0 → get_or l i 0 ≡ 32
unfolding blank_at
blank_is l i =
    picks (λ (r : ℕ). r ≡ 0 → get_or l i 0 ≡ 32) (eqb (get_or l i 0) 32) 0 (i + 1) (λ t _. eqb-true (get_or l i 0) 32 t) (λ _ z. absurd (omega arith))

pub gap_text : (l : List ℕ) (at n : ℕ) → at + n ≤ length l → gap_of l at n ≡ 0 → blanks n ≡ cols l at n
unfolding gap_of blanks
gap_text l at zero h e = refl
gap_text l at (suc n) h e =
    let f = first_split (gap_of l at n) (blank_at l (at + n)) e in
    ap₂ (λ x y. x ++ (y ∷ [])) (gap_text l at n (omega arith) f.0) (sym (blank_is l (at + n) f.1)) ∙ sym (cols_suc l at n h)

pub gap_back : (l : List ℕ) (at n : ℕ) → cols l at n ≡ blanks n → gap_of l at n ≡ 0
unfolding gap_of blanks first_of blank_at
gap_back l at zero e = refl
gap_back l at (suc n) e =
    simp (gap_back l at n (cols_init l at n (blanks n) 32 (blanks_length n) e), eq-eqb _ _ (cols_last l at n (blanks n) 32 (blanks_length n) e))

-- each of them is blank
pub gap_byte : (l : List ℕ) (at n i : ℕ) → gap_of l at n ≡ 0 → i < n → get_or l (at + i) 0 ≡ 32
unfolding gap_of
gap_byte l at zero i e h = absurd (omega arith)
gap_byte l at (suc n) i e h =
    let f = first_split (gap_of l at n) (blank_at l (at + n)) e in
    go f (gap_byte l at n i f.0) (eqb i n) refl
  where
    go : (gap_of l at n ≡ 0) × (blank_at l (at + n) ≡ 0) → (i < n → get_or l (at + i) 0 ≡ 32) → (t : Bool) → eqb i n ≡ t → get_or l (at + i) 0 ≡ 32
    go f ih true t = rw (eqb-true i n t) (blank_is l (at + n) f.1)
    go f ih false t = let z = eqb-false i n t in ih (omega arith)

-- ---- clean columns
pub clean_cols : (l : List ℕ) → Clean l → (at n : ℕ) → at + n ≤ length l → clean_at l at n ≡ true
unfolding clean_at
clean_cols l c at zero h = refl
clean_cols l c at (suc n) h = both_join _ _ (clean_cols l c at n (omega arith)) (clean_at_lem l c (at + n) (omega arith))

-- fewer of them from the same index are clean too
pub clean_fewer : (l : List ℕ) (at m n : ℕ) → m ≤ n → clean_at l at n ≡ true → clean_at l at m ≡ true
unfolding clean_at
clean_fewer l at m zero h e = let q : m ≡ 0 = omega arith in ap (clean_at l at) q ∙ e
clean_fewer l at m (suc n) h e = go (clean_fewer l at m n) (eqb m (suc n)) refl
  where
    go : (m ≤ n → clean_at l at n ≡ true → clean_at l at m ≡ true) → (t : Bool) → eqb m (suc n) ≡ t → clean_at l at m ≡ true
    go ih true t = ap (clean_at l at) (eqb-true m (suc n) t) ∙ e
    go ih false t = let z = eqb-false m (suc n) t in ih (omega arith) (both_split (clean_at l at n) _ e).0
