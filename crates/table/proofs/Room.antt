-- With room saving and the tray are granted, and write all their bytes; as many bytes as the text has are room enough.
-- Assumes nothing.
use Prim.Native.Nat.{ℕ, ◌*◌, ◌≤◌}
use mathlib.Core.List.{List}
use mathlib.Core.Bool.{Bool, true, false}
use mathlib.Core.Path.{◌≡◌, refl, sym, ◌∙◌, ap}
use native.Mathlib.Omega.{arith}
use borrow.Author.Tests.{le-ltb}
use lib.ListN.{length, drop}
use lib.Seq.{take_at, drop_at}
use Rattle.places.specs.Counts.{no_counts}
use Rattle.rows.specs.Text.{cut}
use Rattle.slots.specs.declared.Slot.{Slot}
use Rattle.table.specs.Table.{Told, told, over, table_of}
use Rattle.table.specs.Deal.{output_of, put_of}
use Rattle.table.specs.Promise.{wrote, Granted, HasRoom, RoomEnough}
use Rattle.table.proofs.Joined.{accepted_size}
use Rattle.table.proofs.Ready.{ready}
use Rattle.table.proofs.Shares.{shares_few, bytes_size}

module _ (saving : Bool) (t : List ℕ) (xs : List Slot) (z : table_of t xs ≡ 0) (o : List ℕ) (h : HasRoom saving t xs o) where
  put_told : put_of saving t xs o ≡ told 0 (length (output_of saving t xs)) (over (output_of saving t xs) o)
  unfolding put_of
  put_told = rw (z, le-ltb (length o) (length (output_of saving t xs)) h)

  pub put_wrote : wrote (put_of saving t xs o) ≡ output_of saving t xs
  put_wrote = rw put_told (take_at (output_of saving t xs) (drop (length (output_of saving t xs)) o) (length (output_of saving t xs)) refl)

  pub put_granted : Granted o (put_of saving t xs o)
  put_granted =
      record {
        number = ap (λ (a : Told ℕ). a.number) put_told;
        count = ap length put_wrote ∙ sym (ap (λ (a : Told ℕ). a.count) put_told);
        rest = rw put_told (drop_at (output_of saving t xs) (drop (length (output_of saving t xs)) o) (length (output_of saving t xs)) refl);
      }

-- the bytes of the two are among the bytes of the text, whose pieces they share
bytes_few : (saving : Bool) (t : List ℕ) (xs : List Slot) → table_of t xs ≡ 0 → length (output_of saving t xs) ≤ length t
bytes_few saving t xs z = go saving
  where
    all : length t ≡ 81 * length (cut t)
    all = accepted_size t (ready t xs z).good

    go : (s : Bool) → length (output_of s t xs) ≤ length t
    go true = omega (arith, all, bytes_size true t xs (ready t xs z).good, shares_few true xs 0 false no_counts (cut t))
    go false = omega (arith, all, bytes_size false t xs (ready t xs z).good, shares_few false xs 0 false no_counts (cut t))

pub room_enough : (t : List ℕ) (xs : List Slot) → table_of t xs ≡ 0 → RoomEnough t xs
room_enough t xs z =
    record {
      bytes = λ saving. bytes_few saving t xs z;
      save = λ o h. (put_granted true t xs z o (omega (arith, bytes_few true t xs z))).number;
      tray = λ o h. (put_granted false t xs z o (omega (arith, bytes_few false t xs z))).number;
    }
