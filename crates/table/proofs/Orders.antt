-- After any list of orders the table belongs to its text, and each fragment has the mark of the last order granted for it.
-- Assumes nothing.
use Prim.Native.Nat.{ℕ, zero, suc, ◌+◌, ◌-◌, ◌≤◌}
use mathlib.Core.List.{List, [], ◌∷◌}
use mathlib.Core.Bool.{Bool, true, false}
use mathlib.Core.Path.{◌≡◌, refl, sym, ◌∙◌, ap}
use native.Mathlib.Omega.{arith}
use borrow.Author.Tests.{eqb-true, eqb-false}
use lib.Dec.{eqb}
use lib.ListN.{drop}
use Rattle.fields.specs.declared.FragmentNumber.{FragmentNumber}
use Rattle.ascii.specs.Tests.{pick, both}
use Rattle.slots.specs.declared.Slot.{Slot}
use Rattle.fragments.specs.Fragments.{tail_of, mark_of, marked}
use Rattle.table.specs.Table.{mine, fragments, back_of, mark_byte, order_of}
use Rattle.table.specs.Orders.{Order, order, orders_of, last_of}
use Rattle.table.proofs.Marks.{after, marked_other, marked_own}
use Rattle.table.proofs.Ready.{Ready, next_mine, order_cases, order_ready}

-- ---- what marking does not change, no order changes
abbrev pub Lasting : (List Slot → ℕ) → Type 0
Lasting F = (b m : ℕ) (ss : List Slot) → F (marked b m ss) ≡ F ss

pub order_lasts : (F : List Slot → ℕ) → Lasting F → (t : List ℕ) (xs : List Slot) (f : FragmentNumber) (aside : Bool) → Ready t xs
    → F (mine t (order_of t xs f aside).left) ≡ F (mine t xs)
order_lasts F lasts t xs f aside R =
    order_cases (λ r. F (mine t r.left) ≡ F (mine t xs)) t xs f aside R refl refl
    (λ h g. ap F (next_mine t xs R (back_of t xs f) (mark_byte aside)) ∙ lasts (back_of t xs f) (mark_byte aside) (mine t xs))

marked_drop : (b m : ℕ) (ss : List Slot) (j : ℕ) → drop j (marked b m ss) ≡ marked b m (drop j ss)
unfolding marked
marked_drop b m [] zero = refl
marked_drop b m [] (suc j) = refl
marked_drop b m (s ∷ ss) zero = refl
marked_drop b m (s ∷ ss) (suc j) = marked_drop b m ss j

-- how many fragments there are from slot j on
pub count_lasts : (j : ℕ) → Lasting (λ ss. (tail_of (drop j ss)).count)
count_lasts j b m ss = ap (λ (us : List Slot). (tail_of us).count) (marked_drop b m ss j) ∙ (after b m (drop j ss)).count

-- how many fragments there are
all_lasts : Lasting (λ ss. (tail_of ss).count)
all_lasts b m ss = (after b m ss).count

pub order_count : (t : List ℕ) (xs : List Slot) (f : FragmentNumber) (aside : Bool) → Ready t xs → fragments t (order_of t xs f aside).left ≡ fragments t xs
order_count t xs f aside R = order_lasts (λ ss. (tail_of ss).count) all_lasts t xs f aside R

-- ---- the mark of fragment f
abbrev pub fragment_mark : List ℕ → List Slot → FragmentNumber → ℕ
fragment_mark t xs f = mark_of (back_of t xs f) (mine t xs)

not_granted : (x : Bool) (a m : ℕ) → pick (both x false) a m ≡ m
unfolding both
not_granted true a m = refl
not_granted false a m = refl

granted : (x : Bool) (a m : ℕ) → pick (both x true) a m ≡ pick x a m
unfolding both
granted true a m = refl
granted false a m = refl

-- an order that is granted gives its fragment the mark asked for; all other marks stay
pub order_mark : (t : List ℕ) (xs : List Slot) (g : FragmentNumber) (aside : Bool) (f : FragmentNumber) → Ready t xs → 1 ≤ f.0 → f.0 ≤ fragments t xs
    → fragment_mark t (order_of t xs g aside).left f ≡ pick (both (eqb g.0 f.0) (eqb (order_of t xs g aside).number 0)) (mark_byte aside) (fragment_mark t xs f)
order_mark t xs g aside f R l h =
    order_cases (λ r. fragment_mark t r.left f ≡ pick (both (eqb g.0 f.0) (eqb r.number 0)) (mark_byte aside) (fragment_mark t xs f)) t xs g aside R
    (sym (not_granted (eqb g.0 f.0) (mark_byte aside) (fragment_mark t xs f))) (sym (not_granted (eqb g.0 f.0) (mark_byte aside) (fragment_mark t xs f)))
    (λ n u. ap (λ (ys : List Slot). mark_of ((tail_of ys).count + 1 - f.0) ys) (next_mine t xs R (back_of t xs g) (mark_byte aside))
    ∙ (rw (after (back_of t xs g) (mark_byte aside) (mine t xs)).count (go n u (eqb g.0 f.0) refl))
    ∙ sym (granted (eqb g.0 f.0) (mark_byte aside) (fragment_mark t xs f)))
  where
    go : (g.0 ≡ 0 → ⊥) → g.0 ≤ fragments t xs → (x : Bool) → eqb g.0 f.0 ≡ x
        → mark_of (back_of t xs f) (marked (back_of t xs g) (mark_byte aside) (mine t xs)) ≡ pick x (mark_byte aside) (fragment_mark t xs f)
    go n u true e =
        let q : g.0 ≡ f.0 = eqb-true _ _ e in
        rw q (marked_own (back_of t xs f) (mark_byte aside) (mine t xs) (omega arith) (omega arith))
    go n u false e = marked_other (back_of t xs g) (mark_byte aside) (mine t xs) (back_of t xs f) (λ q. eqb-false g.0 f.0 e (omega arith))

-- ---- a list of orders
pub orders_ready : (t : List ℕ) (xs : List Slot) (os : List Order) → Ready t xs → Ready t (orders_of t xs os)
unfolding orders_of
orders_ready t xs [] R = R
orders_ready t xs (order g aside ∷ os) R = orders_ready t (order_of t xs g aside).left os (order_ready t xs g aside R)

pub orders_last : (F : List Slot → ℕ) → Lasting F → (t : List ℕ) (xs : List Slot) (os : List Order) → Ready t xs → F (mine t (orders_of t xs os)) ≡ F (mine t xs)
unfolding orders_of
orders_last F lasts t xs [] R = refl
orders_last F lasts t xs (order g aside ∷ os) R =
    orders_last F lasts t (order_of t xs g aside).left os (order_ready t xs g aside R) ∙ order_lasts F lasts t xs g aside R

pub orders_count : (t : List ℕ) (xs : List Slot) (os : List Order) → Ready t xs → fragments t (orders_of t xs os) ≡ fragments t xs
orders_count t xs os R = orders_last (λ ss. (tail_of ss).count) all_lasts t xs os R

byte_pick : (x a b : Bool) → pick x (mark_byte a) (mark_byte b) ≡ mark_byte (pick x a b)
byte_pick true a b = refl
byte_pick false a b = refl

-- the mark of a fragment is that of the last order granted for it, and what it was where there is none
pub orders_mark : (t : List ℕ) (xs : List Slot) (os : List Order) (f : FragmentNumber) (now : Bool) → Ready t xs → 1 ≤ f.0 → f.0 ≤ fragments t xs → fragment_mark t xs f ≡ mark_byte now
    → fragment_mark t (orders_of t xs os) f ≡ mark_byte (last_of t xs f now os)
unfolding orders_of last_of
orders_mark t xs [] f now R l h e = e
orders_mark t xs (order g aside ∷ os) f now R l h e =
    let h2 : f.0 ≤ fragments t (order_of t xs g aside).left = rw (order_count t xs g aside R) h in
    orders_mark t (order_of t xs g aside).left os f _ (order_ready t xs g aside R) l h2
    (order_mark t xs g aside f R l h
    ∙ ap (λ (x : ℕ). pick (both (eqb g.0 f.0) (eqb (order_of t xs g aside).number 0)) (mark_byte aside) x) e
    ∙ byte_pick (both (eqb g.0 f.0) (eqb (order_of t xs g aside).number 0)) aside now)
