-- The numbers of the fragments: a number for each slot, that of its fragment.
-- Assumes nothing.
use Prim.Native.Nat.{ℕ, zero, suc, ◌+◌, ◌<◌}
use mathlib.Core.List.{List, [], ◌∷◌}
use mathlib.Core.Path.{◌≡◌, refl, ◌∙◌, ap}
use native.Mathlib.Omega.{arith}
use native.Mathlib.Numerals.{add-one}
use lib.Dec.{ltb}
use lib.ListN.{length, drop, get_or, length-take, get_or-append}
use lib.Seq.{drop-cons}
use Rattle.slots.specs.declared.Slot.{Slot}
use Rattle.fragments.specs.declared.Tail.{Tail}
use Rattle.slots.specs.Slots.{no_slot}
use Rattle.fragments.specs.Fragments.{tail_of, turned, numbered}
use Rattle.table.specs.Table.{over, loaded_of, mine, table_of, fragments, fragments_of}
use Rattle.table.specs.Promise.{fragment_of}
use Rattle.table.specs.Arrange.{Numbered}
use Rattle.table.proofs.Ready.{Ready, ready}
use Rattle.table.proofs.Refused.{granted_left}

-- a number for each slot
pub numbered_size : (n : ℕ) (ss : List Slot) → length (numbered n ss) ≡ length ss
unfolding numbered
numbered_size n [] = refl
numbered_size n (s ∷ ss) = ap suc (numbered_size n ss)

-- the number of slot j is that of the first fragment from it on
pub numbered_at : (n : ℕ) (ss : List Slot) (j : ℕ) → j < length ss → get_or (numbered n ss) j 0 ≡ turned n (tail_of (drop j ss)).count
unfolding numbered
numbered_at n [] j h = absurd (omega arith)
numbered_at n (s ∷ ss) zero h = refl
numbered_at n (s ∷ ss) (suc j) h = numbered_at n ss j (omega arith)

-- a slot more, for a loop from the last slot down
pub numbered_step : (n : ℕ) (ss : List Slot) (k j : ℕ) → k ≡ j + 1 → j < length ss → (u : Tail) → u ≡ tail_of (drop j ss)
    → numbered n (drop j ss) ≡ turned n u.count ∷ numbered n (drop k ss)
unfolding numbered
numbered_step n ss k j e h u q = rw (q, e, add-one j, drop-cons ss j no_slot h)

-- ---- what is told
module _ (t : List ℕ) (xs : List Slot) (o : List ℕ) where
  -- of a table that belongs
  told_at : Ready t xs → (j : ℕ) → j < length (loaded_of t) → get_or (over (numbered (fragments t xs) (mine t xs)) o) j 0 ≡ (fragment_of t xs j).0
  unfolding fragment_of
  told_at R j h =
      let size : length (mine t xs) ≡ length (loaded_of t) = simp length-take (omega (arith, R.room)) in
      get_or-append (numbered (fragments t xs) (mine t xs)) _ 0 j (omega (arith, numbered_size (fragments t xs) (mine t xs)))
      ∙ numbered_at (fragments t xs) (mine t xs) j (omega arith)

  -- the number told of a slot is that of its fragment
  pub numbered_told : Numbered t xs o
  unfolding fragments_of
  numbered_told =
      record {
        at = granted_left (λ ns. (j : ℕ) → j < length (loaded_of t) → get_or ns j 0 ≡ (fragment_of t xs j).0) (table_of t xs)
            (ltb (length o) (length (loaded_of t))) 17 (length (loaded_of t)) o (over (numbered (fragments t xs) (mine t xs)) o) (λ h. omega arith)
            (λ e _. told_at (ready t xs e));
      }
