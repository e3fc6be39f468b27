-- What is promised of the tally beyond its definitions: the statement. It is proved in proofs/.
use Rattle.std.specs.Prelude.{◌+◌, ◌<◌, ◌≤◌, ◌≡◌}
use Rattle.ascii.specs.Library.{ℕ, List, Bool, true, false, length}
use Rattle.kinds.specs.Kinds.{row_of, is_named, kind_of}
use Rattle.master.specs.declared.{Tally.Tally}
use Rattle.places.specs.Counts.{count_of}
use Rattle.tally.specs.Tally.{count_in, told_tally, tally_line, tally_all, Granted, lines_of}

pub record Promises : Type 0 where
  -- a line under six bytes gets 4
  pub short : (past : Bool) (t : Tally) (l : List ℕ) → length l < 6 → tally_line past t l ≡ told_tally 4 t
  -- a refusal leaves the tally as found
  pub kept : (past : Bool) (t : Tally) (l : List ℕ) → ((tally_line past t l).number ≡ 0 → ⊥) → (tally_line past t l).tally ≡ t
  -- a known name that MASTER does not count changes nothing, and never gets 14
  pub uncounted : (past : Bool) (t : Tally) (l : List ℕ) → is_named (kind_of l) ≡ true → count_of (kind_of l) ≡ 0
      → tally_line past t l ≡ told_tally 0 t
  -- once the first ENDMDL has gone by, nor do ATOM, HETATM and TER, the kinds that have a slot
  pub slotted : (t : Tally) (l : List ℕ) → (row_of (kind_of l)).slot ≡ true → tally_line true t l ≡ told_tally 0 t
  -- any other line is counted as before
  pub others : (t : Tally) (l : List ℕ) → (row_of (kind_of l)).slot ≡ false → tally_line true t l ≡ tally_line false t l
  -- after lines that are all granted each of the nine counts has grown by the lines of its names
  pub counted : (past : Bool) (t : Tally) (ls : List (List ℕ)) (n : ℕ) → 0 < n → n ≤ 9 → Granted past t ls
      → count_in (tally_all past t ls) n ≡ count_in t n + lines_of past n ls
