-- What the functions over a lent table say of it to one another. (Nothing here is part of an answer.)
use Rattle.std.specs.Prelude.{◌+◌, ◌*◌, ◌-◌, ◌≤◌, ◌<◌, ◌∷◌, ◌≡◌}
use Rattle.ascii.specs.Library.{ℕ, List, [], Bool, true, false, length, take, get_or, leb, pick, both}
use Rattle.pieces.specs.declared.{Line.Line}
use Rattle.facets.specs.Facets.{is_fence}
use Rattle.gate.specs.Gate.{check_of}
use Rattle.slots.specs.declared.{Slot.Slot}
use Rattle.slots.specs.Slots.{no_model, no_slot}
use Rattle.table.specs.Table.{lines_from, loaded_of, one_of, fits_from, fragments}
use Rattle.table.specs.Deal.{is_in, stands_in, stays}
use Rattle.store.specs.declared.{Findings.Findings, Held.Held}
use Rattle.search.specs.Search as search

-- a slot whose model and serial a line can have
abbrev pub is_small : Slot → Bool
is_small s = both (leb s.model 9999) (leb s.serial.0 99999)

-- the number by which slots are looked for: the serial, above all those of the models before; 0 for a slot that no line has
unfoldable pub rank_of : Slot → ℕ
rank_of s = pick (is_small s) (100000 * s.model + s.serial.0) 0

abbrev pub rank_at : List Slot → ℕ → ℕ
rank_at xs j = rank_of (get_or xs j no_slot)

-- the table has k slots, their numbers rise, and lines can have them
pub record Rises (xs : List Slot) (k : ℕ) : Type 0 where
  pub within : k ≤ length xs
  pub rise : search.Rises (rank_at xs) 0 k
  pub small : (j : ℕ) → j < k → is_small (get_or xs j no_slot) ≡ true

-- what a search in model m says: an atom with serial x is in among the first k slots, or none of that model is
abbrev pub StandsAs : List Slot → ℕ → ℕ → ℕ → Bool → Type 0
StandsAs xs k m x true = stands_in (take k xs) x ≡ true
StandsAs xs k m x false = (j : ℕ) → j < k → (get_or xs j no_slot).model ≡ m → is_in x (get_or xs j no_slot) ≡ false

-- how many of these lines stay
unfoldable pub kept_from : List Slot → ℕ → List Line → ℕ
kept_from xs k [] = 0
kept_from xs k (l ∷ ls) = pick (stays xs k l) 1 0 + kept_from xs (k + one_of l) ls

-- how many of them are MODEL and ENDMDL lines
unfoldable pub fences_from : List Line → ℕ
fences_from [] = 0
fences_from (l ∷ ls) = pick (is_fence l) 1 0 + fences_from ls

-- what one pass over an accepted text says
pub record Surveyed (t : List ℕ) (xs : List Slot) (v : Findings) : Type 0 where
  pub need : v.need ≡ length (loaded_of t)
  pub fits : v.fits ≡ fits_from xs 0 no_model (lines_from t 0)
  pub lines : length t ≡ 81 * v.lines
  pub fences : v.fences ≡ fences_from (lines_from t 0)
  pub few : v.fences ≤ v.lines
  pub kept : v.fits ≡ true → v.need ≤ length xs → v.kept ≡ kept_from xs 0 (lines_from t 0)
  pub rises : v.fits ≡ true → v.need ≤ length xs → Rises xs v.need

-- what is known of a table that belongs to a text
pub record Belongs (t : List ℕ) (xs : List Slot) (h : Held) : Type 0 where
  pub need : h.need ≡ length (loaded_of t)
  pub room : h.need ≤ length xs
  pub fragments : h.fragments ≡ fragments t xs
  pub few : h.fragments ≤ h.need
  pub lines : length t ≡ 81 * h.lines
  pub fences : h.fences ≡ fences_from (lines_from t 0)
  pub kept : h.kept ≡ kept_from xs 0 (lines_from t 0)
  pub rises : Rises xs h.need

-- an accepted text whose slots' serials rise
pub record Dealable (t : List ℕ) (xs : List Slot) : Type 0 where
  pub good : (check_of t).number ≡ 0
  pub rises : Rises xs (length (loaded_of t))

-- how many lines stay, or go or are copied
abbrev pub share_of : Held → Bool → ℕ
share_of h saving = pick saving h.kept (h.lines - h.kept + h.fences)
