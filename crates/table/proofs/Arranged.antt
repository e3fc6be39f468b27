-- Arranging all fragments is giving an order for each: granted or refused with 16, an order leaves its fragment with the mark asked for.
-- Assumes nothing.
use Prim.Native.Nat.{ℕ, zero, suc, ◌+◌, ◌-◌, ◌≤◌}
use mathlib.Core.List.{List, [], ◌∷◌, ◌++◌}
use mathlib.Core.Bool.{Bool, true, false, not}
use mathlib.Core.Path.{◌≡◌, refl, sym, ◌∙◌, ap}
use native.Mathlib.Omega.{arith}
use borrow.Author.Tests.{eqb-true, eqb-false, not-false, ne_eqb, le-ltb, leb-true, leb-false, le-leb, lt-leb}
use lib.Dec.{eqb, leb}
use lib.ListN.{length, take, drop, length-take}
use lib.Seq.{take_at, drop_at}
use Rattle.fields.specs.declared.FragmentNumber.{FragmentNumber}
use Rattle.ascii.specs.Tests.{pick, either}
use Rattle.slots.specs.declared.Slot.{Slot}
use Rattle.fragments.specs.Fragments.{mark_of, marked, marked_by}
use Rattle.table.specs.Table.{Told, told, over, loaded_of, mine, table_of, fragments, back_of, mark_byte, mark_at, order_of, arrange_of}
use Rattle.table.specs.Orders.{orders_of}
use Rattle.table.specs.Arrange.{orders_for, AsOrdered}
use Rattle.table.proofs.Ready.{Ready, ready, ready_table, order_ready}
use Rattle.table.proofs.Orders.{order_count}
use Rattle.table.proofs.Refused.{granted_left}
use Rattle.table.proofs.AllMarks.{marked_by_size, marked_by_same, marked_by_twice, marked_by_own, marked_one, mark_told}

-- ---- a table written over
-- what is written over with as many slots as before leaves what is past them
over_twice : (ys zs xs : List Slot) → length ys ≡ length zs → over ys (over zs xs) ≡ over ys xs
over_twice ys zs xs e = ap (λ (us : List Slot). ys ++ us) (drop_at zs (drop (length zs) xs) (length ys) (sym e) ∙ ap (λ (n : ℕ). drop n xs) (sym e))

-- the text's own slots, put back, are the table as it is
over_own : (n : ℕ) (xs : List Slot) → over (take n xs) xs ≡ xs
over_own zero xs = refl
over_own (suc n) [] = refl
over_own (suc n) (x ∷ xs) = ap (λ (us : List Slot). x ∷ us) (over_own n xs)

-- the table with its fragments marked as m says
abbrev pub all_marked : (ℕ → ℕ) → List ℕ → List Slot → List Slot
all_marked m t xs = over (marked_by m (mine t xs)) xs

-- its slots
pub all_mine : (m : ℕ → ℕ) (t : List ℕ) (xs : List Slot) → Ready t xs → mine t (all_marked m t xs) ≡ marked_by m (mine t xs)
all_mine m t xs R =
    take_at (marked_by m (mine t xs)) (drop (length (marked_by m (mine t xs))) xs) (length (loaded_of t))
    (marked_by_size m (mine t xs) ∙ simp length-take (omega (arith, R.room)))

-- marked again, the later marks stand
all_twice : (m k : ℕ → ℕ) (t : List ℕ) (xs : List Slot) → Ready t xs → all_marked m t (all_marked k t xs) ≡ all_marked m t xs
all_twice m k t xs R =
    ap (λ (us : List Slot). over us (all_marked k t xs)) (ap (marked_by m) (all_mine k t xs R) ∙ marked_by_twice m k (mine t xs))
    ∙ over_twice (marked_by m (mine t xs)) (marked_by k (mine t xs)) xs (marked_by_size m (mine t xs) ∙ sym (marked_by_size k (mine t xs)))

-- only the marks told of fragments that there are count
all_same : (m k : ℕ → ℕ) (t : List ℕ) (xs : List Slot) → ((c : ℕ) → 1 ≤ c → c ≤ fragments t xs → m c ≡ k c) → all_marked m t xs ≡ all_marked k t xs
all_same m k t xs h = ap (λ (us : List Slot). over us xs) (marked_by_same m k (mine t xs) h)

-- a table that belongs is marked as its fragments are
all_own : (t : List ℕ) (xs : List Slot) → Ready t xs → all_marked (λ c. mark_of c (mine t xs)) t xs ≡ xs
all_own t xs R = ap (λ (us : List Slot). over us xs) (marked_by_own (mine t xs) R.agree) ∙ over_own (length (loaded_of t)) xs

-- ---- one order
-- the marks of the fragments after an order
abbrev order_mark : List ℕ → List Slot → FragmentNumber → Bool → ℕ → ℕ
order_mark t xs f aside c = pick (eqb c (back_of t xs f)) (mark_byte aside) (mark_of c (mine t xs))

-- granted, or refused because it is already there: what an order for a fragment that there is leaves
pub order_leaves : (t : List ℕ) (xs : List Slot) (f : FragmentNumber) (aside : Bool) → Ready t xs → 1 ≤ f.0 → f.0 ≤ fragments t xs
    → (order_of t xs f aside).left ≡ all_marked (order_mark t xs f aside) t xs
unfolding order_of either
order_leaves t xs f aside R l h =
    rw (ready_table t xs R, ne_eqb f.0 0 (omega arith), le-ltb (fragments t xs) f.0 h)
    (go (eqb (mark_of (back_of t xs f) (mine t xs)) (mark_byte aside)) refl)
  where
    there : mark_of (back_of t xs f) (mine t xs) ≡ mark_byte aside → (c : ℕ) (x : Bool) → eqb c (back_of t xs f) ≡ x
        → pick x (mark_byte aside) (mark_of c (mine t xs)) ≡ mark_of c (mine t xs)
    there e c true q = sym e ∙ ap (λ (b : ℕ). mark_of b (mine t xs)) (sym (eqb-true _ _ q))
    there e c false q = refl

    go : (z : Bool) → eqb (mark_of (back_of t xs f) (mine t xs)) (mark_byte aside) ≡ z
        → (pick {A = Told Slot} z (told 16 0 xs) (told 0 0 (over (marked (back_of t xs f) (mark_byte aside) (mine t xs)) xs))).left ≡ all_marked (order_mark t xs f aside) t xs
    go true e =
        sym (all_same (order_mark t xs f aside) (λ c. mark_of c (mine t xs)) t xs (λ c l u. there (eqb-true _ _ e) c (eqb c (back_of t xs f)) refl) ∙ all_own t xs R)
    go false e = ap (λ (us : List Slot). over us xs) (marked_one (back_of t xs f) (mark_byte aside) (mine t xs) R.agree)

-- ---- an order for each fragment from f on
-- the marks that the last of the fragments get from the bytes; the others have theirs
abbrev told_mark : List ℕ → List ℕ → List Slot → ℕ → ℕ
told_mark bs t xs c = pick (leb c (length bs)) (mark_at bs c) (mark_of c (mine t xs))

-- a byte more, for the fragment before those of the other bytes
byte_more : (b : ℕ) (bs : List ℕ) (c k v : ℕ) → k ≡ length bs + 1
    → pick (leb c (length bs)) (mark_at bs c) (pick (eqb c k) (mark_byte (not (eqb b 0))) v) ≡ pick (leb c (length (b ∷ bs))) (mark_at (b ∷ bs) c) v
byte_more b bs c k v e = go (leb c (length bs)) refl (eqb c k) refl
  where
    go : (x : Bool) → leb c (length bs) ≡ x → (y : Bool) → eqb c k ≡ y
        → pick x (mark_at bs c) (pick y (mark_byte (not (eqb b 0))) v) ≡ pick (leb c (length (b ∷ bs))) (mark_at (b ∷ bs) c) v
    go true p y q =
        let h : c ≤ length bs = leb-true _ _ p in
        let i : suc (length bs) - c ≡ suc (length bs - c) = omega arith in
        rw (le-leb c (suc (length bs)) (omega arith), i)
    go false p true q =
        let h : c ≡ k = eqb-true _ _ q in
        let i : suc (length bs) - c ≡ 0 = omega arith in
        rw (le-leb c (suc (length bs)) (omega arith), i)
    go false p false q = rw (lt-leb c (suc (length bs)) (omega (arith, leb-false c (length bs) p, eqb-false c k q)))

-- what the orders leave, f being the first fragment of which there is a byte, and the last having the last byte
orders_leave : (t : List ℕ) (xs : List Slot) (f : ℕ) (bs : List ℕ) → Ready t xs → 1 ≤ f → f + length bs ≡ fragments t xs + 1
    → orders_of t xs (orders_for f bs) ≡ all_marked (told_mark bs t xs) t xs
unfolding orders_of orders_for
orders_leave t xs f [] R l e =
    sym (all_same (told_mark [] t xs) (λ c. mark_of c (mine t xs)) t xs (λ c g u. rw (lt-leb c 0 g)) ∙ all_own t xs R)
orders_leave t xs f (b ∷ bs) R l e =
    let aside : Bool = not (eqb b 0) in
    let g : FragmentNumber = record { 0 = f } in
    let ys : List Slot = (order_of t xs g aside).left in
    let m : ℕ → ℕ = order_mark t xs g aside in
    let left : ys ≡ all_marked m t xs = order_leaves t xs g aside R l (omega arith) in
    let k : ℕ → ℕ = λ c. pick (leb c (length bs)) (mark_at bs c) (m c) in
    let n : fragments t ys ≡ fragments t xs = order_count t xs g aside R in
    orders_leave t ys (f + 1) bs (order_ready t xs g aside R) (omega arith) (omega arith)
    ∙ all_same (told_mark bs t ys) k t ys
    (λ c l u. ap (λ (x : ℕ). pick (leb c (length bs)) (mark_at bs c) x)
    (ap (mark_of c) (ap (mine t) left ∙ all_mine m t xs R) ∙ mark_told m (mine t xs) c l (omega arith)))
    ∙ ap (all_marked k t) left ∙ all_twice k m t xs R
    ∙ all_same k (told_mark (b ∷ bs) t xs) t xs (λ c l u. byte_more b bs c (back_of t xs g) (mark_of c (mine t xs)) (omega arith))

-- ---- all of them
module _ (t : List ℕ) (xs : List Slot) (bs : List ℕ) where
  -- with a byte for each fragment every fragment has the mark that its byte says
  all_ordered : Ready t xs → length bs ≡ fragments t xs → over (marked_by (mark_at bs) (mine t xs)) xs ≡ orders_of t xs (orders_for 1 bs)
  all_ordered R e =
      all_same (mark_at bs) (told_mark bs t xs) t xs (λ c l u. rw (le-leb c (length bs) (omega arith)))
      ∙ sym (orders_leave t xs 1 bs R (omega arith) (omega arith))

  -- the table that arranging leaves is that of the orders
  pub as_ordered : AsOrdered t xs bs
  unfolding arrange_of
  as_ordered =
      record {
        left = granted_left (λ ys. ys ≡ orders_of t xs (orders_for 1 bs)) (table_of t xs) (not (eqb (length bs) (fragments t xs))) 15 0 xs _ (λ h. omega arith)
            (λ e f. all_ordered (ready t xs e) (eqb-true _ _ (not-false _ f)));
      }
