-- The bytes of a name by their indices, and a name written over the columns that it fills.
-- Assumes nothing.
use mathlib.Core.Path.{◌≡◌, refl, sym, ◌∙◌, ap}
use mathlib.Core.List.{List, ◌∷◌, ◌++◌, append_assoc}
use Prim.Native.Nat.{ℕ, zero, suc, ◌+◌, ◌-◌, ◌≤◌}
use native.Mathlib.Numerals.{add-one}
use native.Mathlib.Omega.{arith}
use lib.ListN.{length, get_or, take, drop, length-append}
use lib.Seq.{drop-cons, take_at, length-take-le, take_all, length-take-le}
use borrow.Rule.Slice.PartMut.{put_mid, drop_put}
use Rattle.columns.specs.Columns.{cols, Put}
use Rattle.names.specs.Names.{name_at}

pub name_length : (n : ℕ) (l : List ℕ) (at : ℕ) → length (name_at n l at) ≡ n
name_length zero l at = refl
name_length (suc n) l at = ap suc (name_length n l (at + 1))

-- the columns are the bytes
pub name_cols : (n : ℕ) (l : List ℕ) (at : ℕ) → at + n ≤ length l → name_at n l at ≡ cols l at n
name_cols zero l at h = refl
name_cols (suc n) l at h =
    ap (λ x. get_or l at 0 ∷ x) (name_cols n l (at + 1) (omega arith))
    ∙ rw add-one (sym (ap (take (suc n)) (drop-cons l at 0 (omega arith))))

-- a list of n bytes is its bytes by index
pub name_whole : (n : ℕ) (name : List ℕ) → length name ≡ n → name_at n name 0 ≡ name
name_whole n name e = name_cols n name 0 (omega arith) ∙ take_all n name (omega arith)

-- the code's reading and writing of a part of the line
pub name_read : (n : ℕ) (l : List ℕ) (at : ℕ) → at + n ≤ length l → take (at + n - at) (drop at l) ≡ name_at n l at
name_read n l at h = let k : at + n - at ≡ n = omega arith in ap (λ n. take n (drop at l)) k ∙ sym (name_cols n l at h)

pub name_put : (n : ℕ) (l name : List ℕ) (at : ℕ) → at + n ≤ length l → length name ≡ n → Put l at n (name_at n name 0) (put_mid at (at + n - at) l name)
name_put n l name at h e =
    rw (name_whole n name e)
    (record {
      front =
          ap (take (at + n)) (sym (append_assoc (take at l) name _))
          ∙ take_at (take at l ++ name) _ (at + n) (length-append (take at l) name ∙ omega (arith, length-take-le at l (omega arith)));
      rest = drop_put at (at + n) l name (omega arith) h (omega arith);
    })
