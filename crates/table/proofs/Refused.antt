-- A refusal leaves the lent memory as found and counts nothing.
-- Assumes nothing.
use Prim.Native.Nat.{ℕ}
use mathlib.Core.List.{List}
use mathlib.Core.Bool.{Bool, true, false, not}
use mathlib.Core.Path.{◌≡◌, refl}
use borrow.Author.Tests.{eqb-true, eqb-false}
use lib.Dec.{eqb, ltb}
use lib.ListN.{length}
use Rattle.fields.specs.declared.FragmentNumber.{FragmentNumber}
use Rattle.ascii.specs.Tests.{pick, either}
use Rattle.gate.specs.Gate.{check_of}
use Rattle.slots.specs.declared.Slot.{Slot}
use Rattle.fragments.specs.Fragments.{mark_of}
use Rattle.table.specs.Table.{Told, told, loaded_of, load_of, mine, table_of, fragments, back_of, mark_byte, order_of, fragments_of, arrange_of}
use Rattle.table.specs.Deal.{output_of, put_of}
use Rattle.table.specs.Promise.{Safe, SafeRefusals}

refused : {A : Type 0} (n : ℕ) (xs : List A) → Safe xs (told n 0 xs)
refused n xs = record { kept = λ h. (refl, refl) }

granted : {A : Type 0} (k : ℕ) (xs ys : List A) → Safe xs (told 0 k ys)
granted k xs ys = record { kept = λ h. absurd (h refl) }

choice : {A : Type 0} (xs : List A) (b : Bool) (a c : Told A) → Safe xs a → Safe xs c → Safe xs (pick b a c)
choice xs true a c p q = p
choice xs false a c p q = q

load_safe : (t : List ℕ) (xs : List Slot) → Safe xs (load_of t xs)
unfolding load_of
load_safe t xs =
    choice xs (not (eqb (check_of t).number 0)) _ _ (refused _ xs)
    (choice xs (ltb (length xs) (length (loaded_of t))) _ _ (refused 13 xs) (granted _ xs _))

order_safe : (t : List ℕ) (xs : List Slot) (f : FragmentNumber) (aside : Bool) → Safe xs (order_of t xs f aside)
unfolding order_of
order_safe t xs f aside =
    choice xs (not (eqb (table_of t xs) 0)) _ _ (refused _ xs)
    (choice xs (either (eqb f.0 0) (ltb (fragments t xs) f.0)) _ _ (refused 15 xs)
    (choice xs (eqb (mark_of (back_of t xs f) (mine t xs)) (mark_byte aside)) _ _ (refused 16 xs) (granted 0 xs _)))

put_safe : (saving : Bool) (t : List ℕ) (xs : List Slot) (o : List ℕ) → Safe o (put_of saving t xs o)
unfolding put_of
put_safe saving t xs o =
    choice o (not (eqb (table_of t xs) 0)) _ _ (refused _ o)
    (choice o (ltb (length o) (length (output_of saving t xs))) _ _ (refused 17 o) (granted _ o _))

arrange_safe : (t : List ℕ) (xs : List Slot) (bs : List ℕ) → Safe xs (arrange_of t xs bs)
unfolding arrange_of
arrange_safe t xs bs =
    choice xs (not (eqb (table_of t xs) 0)) _ _ (refused _ xs)
    (choice xs (not (eqb (length bs) (fragments t xs))) _ _ (refused 15 xs) (granted 0 xs _))

fragments_safe : (t : List ℕ) (xs : List Slot) (o : List ℕ) → Safe o (fragments_of t xs o)
unfolding fragments_of
fragments_safe t xs o =
    choice o (not (eqb (table_of t xs) 0)) _ _ (refused _ o)
    (choice o (ltb (length o) (length (loaded_of t))) _ _ (refused 17 o) (granted _ o _))

pub safe_refusals : (t : List ℕ) (xs : List Slot) → SafeRefusals t xs
safe_refusals t xs =
    record {
      load = load_safe t xs;
      order = order_safe t xs;
      arrange = arrange_safe t xs;
      fragments = fragments_safe t xs;
      save = put_safe true t xs;
      tray = put_safe false t xs;
    }

-- what is left where two tests refuse nothing: what the grant leaves
pub granted_left : {A : Type 0} (P : List A → Type 0) (n : ℕ) (b : Bool) (k c : ℕ) (xs ys : List A) → (k ≡ 0 → ⊥) → (n ≡ 0 → b ≡ false → P ys)
    → (pick {A = Told A} (not (eqb n 0)) (told n 0 xs) (pick b (told k 0 xs) (told 0 c ys))).number ≡ 0
    → P (pick {A = Told A} (not (eqb n 0)) (told n 0 xs) (pick b (told k 0 xs) (told 0 c ys))).left
granted_left {A} P n b k c xs ys h f = go (eqb n 0) refl b refl
  where
    go : (x : Bool) → eqb n 0 ≡ x → (y : Bool) → b ≡ y → (pick {A = Told A} (not x) (told n 0 xs) (pick y (told k 0 xs) (told 0 c ys))).number ≡ 0
        → P (pick {A = Told A} (not x) (told n 0 xs) (pick y (told k 0 xs) (told 0 c ys))).left
    go false e y g z = absurd (eqb-false _ _ e z)
    go true e true g z = absurd (h z)
    go true e false g z = f (eqb-true _ _ e) g
