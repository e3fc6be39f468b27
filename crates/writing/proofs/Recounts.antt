-- MASTER written anew: 80 bytes into a part of the output, and a newline after them.
-- Assumes nothing.
use Prim.Native.Nat.{ℕ, ◌+◌, ◌-◌, ◌≤◌}
use mathlib.Core.List.{List, [], ◌∷◌, ◌++◌, append-nil}
use mathlib.Core.Bool.{Bool, true}
use mathlib.Core.Path.{◌≡◌, sym, ◌∙◌, ap, subst}
use native.Mathlib.Omega.{arith}
use borrow.Author.Tests.{le-ltb}
use borrow.Rule.Slice.PartMut.{mid_of, put_mid, mid_len, same_len_mid}
use lib.ListN.{length, set, drop_of_length-le}
use Rattle.columns.specs.Columns.{Put}
use Rattle.columns.proofs.Puts.{one_put, put_then}
use Rattle.fields.specs.Format.{write_line}
use Rattle.master.specs.declared.Tally.{Tally}
use Rattle.master.specs.Masters.{master_f}
use Rattle.kinds.specs.declared.Kind.TheVariants as kind
use Rattle.kinds.specs.Kinds.{line_with}
use Rattle.places.specs.declared.Counts.{Counts}
use Rattle.table.specs.Deal.{tally_of, master_piece}
use Rattle.table.specs.FiveDigits.{FiveDigits}
use Rattle.table.proofs.Plain.{small_ok}
use Rattle.table.proofs.Master.{line_80}
use Rattle.writing.proofs.Copies.{part_put}

-- a record in its range, written into a part of 80 bytes, is that part
line_fills : (x m : List ℕ) → length m ≡ 80 → write_line true x m ≡ x
unfolding write_line
line_fills x m e =
    let long : 80 ≤ length m = omega (arith, e) in
    let short : length m ≤ 80 = omega (arith, e) in
    rw (le-ltb (length m) 80 long, drop_of_length-le m short) (append-nil x)

-- t was written into the 80 bytes from `at`, and left x there
pub recounted : (q : Counts) (t : Tally) (l x : List ℕ) (at : ℕ) → FiveDigits (tally_of q) → at + 81 ≤ length l → t ≡ tally_of q
    → x ≡ write_line (master_f.ok t) (line_with kind.Master master_f t) (mid_of at (at + 80 - at) l)
    → Put l at 81 (master_piece q) (set (put_mid at (at + 80 - at) l x) (at + 80) 10)
unfolding master_piece
recounted q t l x at s h e w =
    let m : List ℕ = mid_of at (at + 80 - at) l in
    let n : length m ≡ 80 = omega (arith, mid_len at (at + 80) l (omega arith)) in
    let y : x ≡ line_with kind.Master master_f (tally_of q) =
    w ∙ ap (λ (t : Tally). write_line (master_f.ok t) (line_with kind.Master master_f t) m) e ∙ ap (λ (ok : Bool). write_line ok (line_with kind.Master master_f (tally_of q)) m) (small_ok (tally_of q) s)
    ∙ line_fills (line_with kind.Master master_f (tally_of q)) m n in
    let k : length x ≡ 80 = ap length y ∙ line_80 (tally_of q) in
    let same : length (put_mid at (at + 80 - at) l x) ≡ length l = same_len_mid at (at + 80 - at) l x (k ∙ sym n) in
    subst (λ (z : List ℕ). Put l at 81 (z ++ (10 ∷ [])) (set (put_mid at (at + 80 - at) l x) (at + 80) 10)) y
    (put_then (part_put l x at 80 (omega arith) k) (one_put (put_mid at (at + 80 - at) l x) (at + 80) 10 (omega arith)))
