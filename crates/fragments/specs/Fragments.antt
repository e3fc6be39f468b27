-- Fragments: a closed run with its TER is one; in the unclosed tail each longest stretch of lines of one residue is one.
-- Whether a slot goes with the next depends on what follows, so the slots are taken from the last one on.
use Rattle.std.specs.Prelude.{◌+◌, ◌-◌, ◌∷◌}
use Rattle.ascii.specs.Library.{ℕ, List, [], Bool, true, false, not, eqb, pick, both, either}
use Rattle.residue.specs.Residues.{no_residue, same_residue}
use Rattle.slots.specs.declared.{Slot.Slot}
use Rattle.fragments.specs.declared.{Tail.Tail}
use Rattle.slots.specs.Slots.{ter_kind, mark_in, residue_of, with_mark}

-- a slot of a TER line
abbrev pub is_ter : Slot → Bool
is_ter s = eqb s.kind ter_kind

-- no slot
abbrev pub end_tail : Tail
end_tail = record { some = false; closed = false; model = 0; residue = no_residue; mark = mark_in; count = 0; agree = true }

-- the slot is of the model of those after it
abbrev pub seam : Slot → Tail → Bool
seam s t = eqb s.model t.model

-- the slot is of one fragment with the first of those after it: it is of the same model and does not close a run, and the run is closed or the
-- residues are equal
unfoldable pub joins : Slot → Tail → Bool
joins s t = both (both t.some (both (seam s t) (not (is_ter s)))) (either t.closed (same_residue (residue_of s) t.residue))

-- the slots from s on: whether a TER is among those of its model; model, residue and mark of the first; how many fragments; whether marks agree inside each
unfoldable pub step_tail : Slot → Tail → Tail
step_tail s t =
    record {
      some = true;
      closed = either (is_ter s) (both (seam s t) t.closed);
      model = s.model;
      residue = residue_of s;
      mark = s.mark;
      count = pick (joins s t) t.count (t.count + 1);
      agree = both t.agree (either (not (joins s t)) (eqb s.mark t.mark));
    }

unfoldable pub tail_of : List Slot → Tail
tail_of [] = end_tail
tail_of (s ∷ ss) = step_tail s (tail_of ss)

-- ---- fragments counted from the last one as 1
-- the mark of fragment b
unfoldable pub mark_of : ℕ → List Slot → ℕ
mark_of b [] = mark_in
mark_of b (s ∷ ss) = pick (eqb (tail_of (s ∷ ss)).count b) s.mark (mark_of b ss)

-- the slots with fragment b marked m
unfoldable pub marked : ℕ → ℕ → List Slot → List Slot
marked b m [] = []
marked b m (s ∷ ss) = pick (eqb (tail_of (s ∷ ss)).count b) (with_mark s m) s ∷ marked b m ss

-- the slots with each fragment marked as m says of it
unfoldable pub marked_by : (ℕ → ℕ) → List Slot → List Slot
marked_by m [] = []
marked_by m (s ∷ ss) = with_mark s (m (tail_of (s ∷ ss)).count) ∷ marked_by m ss

-- ---- fragments numbered from the first one as 1, n being how many there are
-- the number of a fragment counted from the last one, and the other way round
abbrev pub turned : ℕ → ℕ → ℕ
turned n b = n + 1 - b

-- of each slot, the number of its fragment
unfoldable pub numbered : ℕ → List Slot → List ℕ
numbered n [] = []
numbered n (s ∷ ss) = turned n (tail_of (s ∷ ss)).count ∷ numbered n ss
