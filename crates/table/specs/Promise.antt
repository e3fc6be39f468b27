-- What is promised of loading, orders, saving and the tray beyond their definitions: the statements. They are proved in proofs/.
use Rattle.std.specs.Prelude.{◌+◌, ◌<◌, ◌≤◌, ◌∷◌, ◌≡◌}
use Rattle.ascii.specs.Library.{ℕ, List, [], map, Bool, true, false, not, length, take, drop, get_or, pick, either}
use Rattle.fields.specs.declared.{FragmentNumber.FragmentNumber}
use Rattle.pieces.specs.declared.{Line.Line}
use Rattle.pieces.specs.Pieces.{line_of}
use Rattle.rows.specs.Text.{cut, row}
use Rattle.facets.specs.Facets.{is_coord, is_fence}
use Rattle.gate.specs.Gate.{check_of}
use Rattle.slots.specs.declared.{Slot.Slot}
use Rattle.slots.specs.Slots.{no_model}
use Rattle.fragments.specs.Fragments.{tail_of, turned}
use Rattle.table.specs.Table.{Told, lines_from, slots_of, one_of, mine, load_of, table_of, fragments, order_of, fragments_of, arrange_of}
use Rattle.table.specs.Deal.{stays, is_master, output_of, save_of, tray_of}
use Rattle.table.specs.Orders.{Order, orders_of, last_of}

-- ---- nothing is lost and nothing is altered
-- whether each line stays
unfoldable pub stays_from : List Slot → ℕ → List Line → List Bool
stays_from xs k [] = []
stays_from xs k (l ∷ ls) = stays xs k l ∷ stays_from xs (k + one_of l) ls

-- those of the pieces that stay, in order
unfoldable pub stay_from : List Bool → List (List ℕ) → List (List ℕ)
stay_from [] ps = []
stay_from (b ∷ bs) [] = []
stay_from (b ∷ bs) (p ∷ ps) = pick b (p ∷ stay_from bs ps) (stay_from bs ps)

-- a piece that is a MODEL or ENDMDL line
abbrev pub is_bound : List ℕ → Bool
is_bound p = is_fence (line_of p)

-- whether each piece goes to the tray: it goes out of the saved entry, or is a MODEL or ENDMDL line, which is in both
unfoldable pub tray_from : List Bool → List (List ℕ) → List (List ℕ)
tray_from [] ps = []
tray_from (b ∷ bs) [] = []
tray_from (b ∷ bs) (p ∷ ps) = pick (either (is_bound p) (not b)) (p ∷ tray_from bs ps) (tray_from bs ps)

-- how many pieces are no MODEL or ENDMDL line
unfoldable pub own_of : List (List ℕ) → ℕ
own_of [] = 0
own_of (p ∷ ps) = pick (is_bound p) (own_of ps) (own_of ps + 1)

-- the line apart from a MASTER line's counts
unfoldable pub bare : List ℕ → List ℕ
bare p = pick (is_master (line_of p)) [] p

-- how many slots the lines before line i have; the number of the fragment that slot j belongs to
unfoldable pub slots_to : List ℕ → ℕ → ℕ
slots_to t i = length (slots_of no_model (take i (lines_from t 0)))

unfoldable pub fragment_of : List ℕ → List Slot → ℕ → FragmentNumber
fragment_of t xs j = record { 0 = turned (fragments t xs) (tail_of (drop j (mine t xs))).count }

-- the bytes that were written: as many as are told, the first of what the output then holds
abbrev pub wrote : Told ℕ → List ℕ
wrote a = take a.count a.left

-- granted: as many bytes as are told were written, and what lies behind them is as found
pub record Granted (found : List ℕ) (a : Told ℕ) : Type 0 where
  pub number : a.number ≡ 0
  pub count : length (wrote a) ≡ a.count
  pub rest : drop a.count a.left ≡ drop a.count found

-- the output is no shorter than the saved entry (saving true), or the tray (false)
abbrev pub HasRoom : Bool → List ℕ → List Slot → List ℕ → Type 0
HasRoom saving t xs o = length (output_of saving t xs) ≤ length o

-- the text t with the table xs, saved into the output o, and the tray written into p
pub record Parted (t : List ℕ) (xs : List Slot) (o p : List ℕ) : Type 0 where
  -- both are granted
  pub save_granted : Granted o (save_of t xs o)
  pub tray_granted : Granted p (tray_of t xs p)
  -- the saved entry is accepted again
  pub again : (check_of (wrote (save_of t xs o))).number ≡ 0
  -- the saved entry has the lines that stay, byte for byte and in order; of MASTER the counts alone are written anew
  pub saved : map bare (cut (wrote (save_of t xs o))) ≡ map bare (stay_from (stays_from xs 0 (lines_from t 0)) (cut t))
  -- MODEL and ENDMDL lines stay
  pub bounds : (i : ℕ) → i < length (cut t) → is_fence (row t i) ≡ true → get_or (stays_from xs 0 (lines_from t 0)) i false ≡ true
  -- the tray has the lines that go, byte for byte and in order, each between copies of the MODEL and ENDMDL lines of its model
  pub tray : cut (wrote (tray_of t xs p)) ≡ tray_from (stays_from xs 0 (lines_from t 0)) (cut t)
  -- the lines of the two, these copies left out, add up to the lines read
  pub sum : length (cut (wrote (save_of t xs o))) + own_of (cut (wrote (tray_of t xs p))) ≡ length (cut t)

-- the text t with the slots xs that loading left, after the orders os
pub record NothingLost (t : List ℕ) (xs : List Slot) (os : List Order) : Type 0 where
  -- the table belongs to the text
  pub belongs : table_of t (orders_of t xs os) ≡ 0
  -- a coordinate line goes exactly if the last order granted for its fragment set it aside
  pub aside : (i : ℕ) → i < length (cut t) → is_coord (row t i) ≡ true
      → get_or (stays_from (orders_of t xs os) 0 (lines_from t 0)) i true ≡ not (last_of t xs (fragment_of t xs (slots_to t i)) false os)
  -- saving and the tray, whatever is lent to them that has room
  pub parted : (o p : List ℕ) → HasRoom true t (orders_of t xs os) o → HasRoom false t (orders_of t xs os) p → Parted t (orders_of t xs os) o p

-- ---- room
-- the saved entry and the tray have no more bytes than the text, so an output as long as the text is never refused with 17
pub record RoomEnough (t : List ℕ) (xs : List Slot) : Type 0 where
  pub bytes : (saving : Bool) → length (output_of saving t xs) ≤ length t
  pub save : (o : List ℕ) → length t ≤ length o → (save_of t xs o).number ≡ 0
  pub tray : (o : List ℕ) → length t ≤ length o → (tray_of t xs o).number ≡ 0

-- ---- refusals
-- a refusal leaves the lent memory as found, and tells that nothing was written
pub record Safe {A : Type 0} (found : List A) (a : Told A) : Type 0 where
  pub kept : (a.number ≡ 0 → ⊥) → (a.left ≡ found) × (a.count ≡ 0)

-- so do all six
pub record SafeRefusals (t : List ℕ) (xs : List Slot) : Type 0 where
  pub load : Safe xs (load_of t xs)
  pub order : (f : FragmentNumber) (aside : Bool) → Safe xs (order_of t xs f aside)
  pub arrange : (bs : List ℕ) → Safe xs (arrange_of t xs bs)
  pub fragments : (o : List ℕ) → Safe o (fragments_of t xs o)
  pub save : (o : List ℕ) → Safe o (save_of t xs o)
  pub tray : (o : List ℕ) → Safe o (tray_of t xs o)

-- ---- all of it
pub record Promises : Type 0 where
  -- a text loaded into any slots where that is granted, then any orders, granted and refused
  pub nothing_lost : (t : List ℕ) (xs : List Slot) (os : List Order) → (load_of t xs).number ≡ 0 → NothingLost t (load_of t xs).left os
  -- any text, and any table that belongs to it
  pub room_enough : (t : List ℕ) (xs : List Slot) → table_of t xs ≡ 0 → RoomEnough t xs
  -- any text and any table
  pub safe_refusals : (t : List ℕ) (xs : List Slot) → SafeRefusals t xs
