-- A line that is copied into a part of the output.
-- Assumes nothing.
use Prim.Native.Nat.{ℕ, ◌+◌, ◌-◌, ◌≤◌}
use mathlib.Core.List.{List, ◌++◌, append_assoc}
use mathlib.Core.Path.{◌≡◌, sym, ◌∙◌, ap}
use native.Mathlib.Omega.{arith}
use borrow.Rule.Slice.PartMut.{post_of, put_mid, drop_put}
use lib.ListN.{length, take, length-append}
use lib.Seq.{take_at, length-take-le}
use Rattle.columns.specs.Columns.{Put}

-- x is put back in the place of the part that was lent
pub part_put : (l x : List ℕ) (at n : ℕ) → at + n ≤ length l → length x ≡ n → Put l at n x (put_mid at (at + n - at) l x)
part_put l x at n h e =
    let long : length (take at l ++ x) ≡ at + n = omega (arith, length-append (take at l) x, length-take-le at l (omega arith)) in
    record {
      front =
          ap (take (at + n)) (sym (append_assoc (take at l) x (post_of at (at + n - at) l)))
          ∙ take_at (take at l ++ x) (post_of at (at + n - at) l) (at + n) long;
      rest = drop_put at (at + n) l x (omega arith) h (omega arith);
    }
