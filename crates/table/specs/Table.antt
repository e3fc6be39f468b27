-- The table of a text: loading it, whether a table belongs to a text, and orders.
use Rattle.std.specs.Prelude.{◌+◌, ◌*◌, ◌-◌, ◌∷◌, ◌++◌, Option, Some, None, Result, Ok, Err}
use Rattle.ascii.specs.Library.{ℕ, List, [], map, Bool, true, not, length, take, drop, get_or, eqb, ltb, leb, pick, both, either}
use Rattle.fields.specs.declared.{FragmentNumber.FragmentNumber}
use Rattle.refusals.specs.declared.{Refusal.Refusal}
use Rattle.pieces.specs.declared.{Line.Line}
use Rattle.pieces.specs.Pieces.{line_of}
use Rattle.rows.specs.Text.{cut}
use Rattle.facets.specs.declared.{Fence.Fence, Fence.TheVariants.Opens, Fence.TheVariants.Shuts}
use Rattle.facets.specs.Facets.{fence_in, is_coord}
use Rattle.gate.specs.Gate.{check_of}
use Rattle.slots.specs.declared.{Slot.Slot}
use Rattle.slots.specs.Slots.{mark_in, mark_aside, no_model, no_slot, line_slot, same_slot}
use Rattle.fragments.specs.Fragments.{tail_of, mark_of, marked, marked_by, turned, numbered}

-- what is answered, and what the lent memory then holds: 0 or the number of a refusal, how many slots or bytes were written, and all of it
pub record Told (A : Type 0) : Type 0 where
  pub number : ℕ
  pub count : ℕ
  pub left : List A

abbrev pub told : {A : Type 0} → ℕ → ℕ → List A → Told A
told n k xs = record { number = n; count = k; left = xs }

-- how many are told of: none where the answer is refused
abbrev pub count_in : Result ℕ Refusal → ℕ
count_in (Ok n) = n
count_in (Err r) = 0

-- the first of xs are written over with ys
abbrev pub over : {A : Type 0} → List A → List A → List A
over ys xs = ys ++ drop (length ys) xs

-- ---- loading
-- the lines of a text from line i on
unfoldable pub lines_from : List ℕ → ℕ → List Line
lines_from t i = map line_of (cut (drop (81 * i) t))

-- the model that a line leaves, after one of model m: MODEL begins its own, and after ENDMDL there is none
abbrev pub model_after : ℕ → Option Fence → ℕ
model_after m (Some (Opens n)) = n
model_after m (Some Shuts) = no_model
model_after m None = m

abbrev pub model_next : ℕ → Line → ℕ
model_next m l = model_after m (fence_in l)

-- one slot for each ATOM, HETATM and TER line, in order, with the number of its model; the lines before them leave model m
unfoldable pub slots_of : ℕ → List Line → List Slot
slots_of m [] = []
slots_of m (l ∷ ls) = pick (is_coord l) (line_slot m l ∷ slots_of (model_next m l) ls) (slots_of (model_next m l) ls)

abbrev pub loaded_of : List ℕ → List Slot
loaded_of t = slots_of no_model (lines_from t 0)

-- 1-12, 13
unfoldable pub load_of : List ℕ → List Slot → Told Slot
load_of t xs =
    pick (not (eqb (check_of t).number 0)) (told (check_of t).number 0 xs)
    (pick (ltb (length xs) (length (loaded_of t))) (told 13 0 xs)
    (told 0 (length (loaded_of t)) (over (loaded_of t) xs)))

-- ---- whether a table belongs to a text
-- a slot fits a line of model m: it is the line's slot apart from the mark, and its mark is in or aside; a line without a slot asks nothing
unfoldable pub fits : Slot → ℕ → Line → Bool
fits s m l = pick (is_coord l) (both (leb s.mark mark_aside) (same_slot s (line_slot m l))) true

-- how many slots a line has
abbrev pub one_of : Line → ℕ
one_of l = pick (is_coord l) 1 0

-- the slots from slot k on fit these lines, the lines before them leaving model m
unfoldable pub fits_from : List Slot → ℕ → ℕ → List Line → Bool
fits_from xs k m [] = true
fits_from xs k m (l ∷ ls) = both (fits (get_or xs k no_slot) m l) (fits_from xs (k + one_of l) (model_next m l) ls)

-- the slots of the table that the text needs
abbrev pub mine : List ℕ → List Slot → List Slot
mine t xs = take (length (loaded_of t)) xs

-- the first slots fit the text, and marks agree inside each fragment
unfoldable pub belongs : List ℕ → List Slot → Bool
belongs t xs = both (fits_from xs 0 no_model (lines_from t 0)) (tail_of (mine t xs)).agree

-- 1-12, 13, 18
unfoldable pub table_of : List ℕ → List Slot → ℕ
table_of t xs =
    pick (not (eqb (check_of t).number 0)) (check_of t).number
    (pick (ltb (length xs) (length (loaded_of t))) 13
    (pick (not (belongs t xs)) 18 0))

-- ---- orders
-- how many fragments there are
abbrev pub fragments : List ℕ → List Slot → ℕ
fragments t xs = (tail_of (mine t xs)).count

-- fragment f, numbered from the first as 1, counted from the last
abbrev pub back_of : List ℕ → List Slot → FragmentNumber → ℕ
back_of t xs f = turned (fragments t xs) f.0

-- the byte of a mark
abbrev pub mark_byte : Bool → ℕ
mark_byte aside = pick aside mark_aside mark_in

-- 1-12, 13, 18, then 15: no such fragment, 16: it is already there
unfoldable pub order_of : List ℕ → List Slot → FragmentNumber → Bool → Told Slot
order_of t xs f aside =
    pick (not (eqb (table_of t xs) 0)) (told (table_of t xs) 0 xs)
    (pick (either (eqb f.0 0) (ltb (fragments t xs) f.0)) (told 15 0 xs)
    (pick (eqb (mark_of (back_of t xs f) (mine t xs)) (mark_byte aside)) (told 16 0 xs)
    (told 0 0 (over (marked (back_of t xs f) (mark_byte aside) (mine t xs)) xs))))

-- ---- all fragments at once
-- 1-12, 13, 18, then 17: there is room for fewer numbers than the text needs slots
unfoldable pub fragments_of : List ℕ → List Slot → List ℕ → Told ℕ
fragments_of t xs o =
    pick (not (eqb (table_of t xs) 0)) (told (table_of t xs) 0 o)
    (pick (ltb (length o) (length (loaded_of t))) (told 17 0 o)
    (told 0 (length (loaded_of t)) (over (numbered (fragments t xs) (mine t xs)) o)))

-- the mark of fragment b, counted from the last, where bs has a byte for each from the first on: 0 in, any other aside
abbrev pub mark_at : List ℕ → ℕ → ℕ
mark_at bs b = mark_byte (not (eqb (get_or bs (length bs - b) 0) 0))

-- 1-12, 13, 18, then 15: there are not as many fragments as bytes
unfoldable pub arrange_of : List ℕ → List Slot → List ℕ → Told Slot
arrange_of t xs bs =
    pick (not (eqb (table_of t xs) 0)) (told (table_of t xs) 0 xs)
    (pick (not (eqb (length bs) (fragments t xs))) (told 15 0 xs)
    (told 0 0 (over (marked_by (mark_at bs) (mine t xs)) xs)))
