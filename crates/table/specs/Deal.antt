-- Saving and the tray: each line of a text goes to the one or to the other.
use Rattle.std.specs.Prelude.{◌+◌, ◌∷◌, ◌++◌, Option, Some, None}
use Rattle.ascii.specs.Library.{ℕ, List, [], Bool, true, false, not, length, take, get_or, eqb, ltb, bytes, pick, both, either, alike}
use Rattle.conect.specs.declared.{Conect.Conect}
use Rattle.master.specs.declared.{Tally.Tally}
use Rattle.master.specs.Masters.{master_f}
use Rattle.kinds.specs.Kinds.{line_with}
use Rattle.pieces.specs.declared.{Line.Line}
use Rattle.facets.specs.declared.{Fence.Fence, Fence.TheVariants.Opens, Fence.TheVariants.Shuts}
use Rattle.facets.specs.Facets as facets
use Rattle.facets.specs.Facets.{line_kind, total_in, fence_in, is_coord, is_fence}
use Rattle.pieces.specs.Pieces.{line_of}
use Rattle.places.specs.declared.{Counts.Counts}
use Rattle.places.specs.Counts.{count_at, no_counts, raised}
use Rattle.rows.specs.Text.{cut}
use Rattle.slots.specs.declared.{Slot.Slot}
use Rattle.slots.specs.Slots.{mark_aside, no_slot}
use Rattle.fragments.specs.Fragments.{is_ter}
use Rattle.table.specs.Table.{Told, told, over, one_of, table_of}
use Rattle.kinds.specs.declared.Kind.TheVariants as kind

-- ---- the atoms that a CONECT line names
-- the slot is the atom with serial n, and not set aside
unfoldable pub is_in : ℕ → Slot → Bool
is_in n s = both (not (eqb s.mark mark_aside)) (both (not (is_ter s)) (eqb s.serial.0 n))

-- n is the serial of an atom that is in, in whichever model
unfoldable pub stands_in : List Slot → ℕ → Bool
stands_in [] n = false
stands_in (s ∷ ss) n = either (is_in n s) (stands_in ss n)

-- a partner is where it is there
abbrev pub partner_in : List Slot → ℕ → Bool
partner_in xs n = either (eqb n 0) (stands_in xs n)

-- each number on a CONECT line is the serial of such an atom
abbrev pub bond_in : List Slot → Conect → Bool
bond_in xs c =
    both (stands_in xs c.serial.0)
    (both (partner_in xs c.a.0) (both (partner_in xs c.b.0) (both (partner_in xs c.c.0) (partner_in xs c.d.0))))

-- a line that is no CONECT line stays for its bonds
abbrev pub bond_stays : List Slot → Option Conect → Bool
bond_stays xs (Some c) = bond_in xs c
bond_stays xs None = true

-- ---- each line stays or goes
-- k slots stand before the line: a line with a slot stays unless that is set aside, a CONECT line while each number on it is in, in some model
unfoldable pub stays : List Slot → ℕ → Line → Bool
stays xs k l = pick (is_coord l) (not (eqb (get_or xs k no_slot).mark mark_aside)) (bond_stays (take k xs) (facets.bond_in l))

-- whether the first model is past, once this line is
abbrev pub past_after : Bool → Option Fence → Bool
past_after past (Some (Opens n)) = past
past_after past (Some Shuts) = true
past_after past None = past

abbrev pub past_next : Bool → Line → Bool
past_next past l = past_after past (fence_in l)

-- the counts of the lines that stay, with this one: coordinates and TER of the first model alone
unfoldable pub counted : Bool → Bool → Counts → Line → Counts
counted stay past q l = pick stay (raised q (count_at past (line_kind l))) q

-- ---- what is written
-- MASTER's numbers, and MASTER with its newline
abbrev pub tally_of : Counts → Tally
tally_of q =
    record {
      remark = q.remark;
      het = q.het;
      helix = q.helix;
      sheet = q.sheet;
      xform = q.xform;
      coord = q.coord;
      ter = q.ter;
      conect = q.conect;
      seq = q.seq;
    }

unfoldable pub master_piece : Counts → List ℕ
master_piece q = line_with kind.Master master_f (tally_of q) ++ bytes "\n"

-- a MASTER line
abbrev pub is_total : Option Tally → Bool
is_total (Some t) = true
is_total None = false

abbrev pub is_master : Line → Bool
is_master l = is_total (total_in l)

-- a line as it is written: MASTER recounted, every other line byte for byte
unfoldable pub written : Counts → List ℕ → List ℕ
written q p = pick (is_master (line_of p)) (master_piece q) p

-- what a line gives to the saved entry (saving true) or to the tray (false); MODEL and ENDMDL are in both
unfoldable pub share : Bool → Bool → Counts → List ℕ → List ℕ
share saving stay q p = pick (either (is_fence (line_of p)) (alike saving stay)) (written q p) []

-- the lines p.., after k slots, the lines kept before them counted q
unfoldable pub dealt : Bool → List Slot → ℕ → Bool → Counts → List (List ℕ) → List ℕ
dealt saving xs k past q [] = []
dealt saving xs k past q (p ∷ ps) =
    share saving (stays xs k (line_of p)) q p
    ++ dealt saving xs (k + one_of (line_of p)) (past_next past (line_of p)) (counted (stays xs k (line_of p)) past q (line_of p)) ps

-- all the bytes of the saved entry, or of the tray
unfoldable pub output_of : Bool → List ℕ → List Slot → List ℕ
output_of saving t xs = dealt saving xs 0 false no_counts (cut t)

-- 1-12, 13, 18, then 17: the output is shorter than what would be written
unfoldable pub put_of : Bool → List ℕ → List Slot → List ℕ → Told ℕ
put_of saving t xs o =
    pick (not (eqb (table_of t xs) 0)) (told (table_of t xs) 0 o)
    (pick (ltb (length o) (length (output_of saving t xs))) (told 17 0 o)
    (told 0 (length (output_of saving t xs)) (over (output_of saving t xs) o)))

abbrev pub save_of : List ℕ → List Slot → List ℕ → Told ℕ
save_of t xs o = put_of true t xs o

abbrev pub tray_of : List ℕ → List Slot → List ℕ → Told ℕ
tray_of t xs o = put_of false t xs o
