-- The lines of a text one after the other: what is done and what the rest gives make the whole.
-- Assumes nothing.
use Prim.Native.Nat.{ℕ, ◌+◌, ◌*◌, ◌≤◌, ◌<◌}
use mathlib.Core.List.{List}
use mathlib.Core.Bool.{Bool, true, false}
use mathlib.Core.Path.{◌≡◌, refl, sym, ◌∙◌, ap}
use native.Mathlib.Omega.{arith}
use lib.ListN.{length, get_or}
use Rattle.facets.specs.Facets.{spot_in, is_fence}
use Rattle.ascii.specs.Tests.{pick, both}
use Rattle.pieces.specs.declared.Line.{Line}
use Rattle.rows.specs.Text.{row}
use Rattle.slots.specs.declared.Slot.{Slot}
use Rattle.slots.specs.Slots.{SmallSpot, no_model, no_slot}
use Rattle.slots.proofs.Returns.{piece_small}
use Rattle.table.specs.Table.{lines_from, model_next, slots_of, fits, fits_from, one_of}
use Rattle.table.specs.Deal.{stays}
use Rattle.table.proofs.Rows.{lines_next, lines_done, slots_count, slots_any}
use Rattle.store.specs.Judged.{kept_from, fences_from}

-- an occupancy read from a line is one that a slot can hold
pub row_small : (t : List ℕ) (i : ℕ) (l : Line) → l ≡ row t i → SmallSpot (spot_in l)
unfolding row
row_small t i l e = rw e (piece_small _)

-- ---- counting the slots
pub need_step : (t : List ℕ) (i k n : ℕ) (l : Line) → 81 * i < length t → l ≡ row t i → k + length (slots_of no_model (lines_from t i)) ≡ n
    → k + one_of l + length (slots_of no_model (lines_from t (i + 1))) ≡ n
need_step t i k n l h e q =
    let a : length (slots_of no_model (lines_from t i)) ≡ one_of l + length (slots_of (model_next no_model l) (lines_from t (i + 1))) =
    ap (λ (ls : List Line). length (slots_of no_model ls)) (lines_next t i h) ∙ rw (← e) (slots_count no_model l (lines_from t (i + 1))) in
    let b = slots_any no_model (model_next no_model l) (lines_from t (i + 1)) in
    omega arith

pub need_done : (t : List ℕ) (i k n : ℕ) → length t ≤ 81 * i → k + length (slots_of no_model (lines_from t i)) ≡ n → k ≡ n
unfolding slots_of
need_done t i k n h q =
    let a : length (slots_of no_model (lines_from t i)) ≡ 0 = ap (λ (ls : List Line). length (slots_of no_model ls)) (lines_done t i h) in
    omega arith

-- ---- comparing the slots
both_assoc : (a b c : Bool) → both a (both b c) ≡ both (both a b) c
unfolding both
both_assoc true b c = refl
both_assoc false b c = refl

pub fits_step : (t : List ℕ) (xs : List Slot) (i k m : ℕ) (l : Line) (whole fit good : Bool) → 81 * i < length t → l ≡ row t i
    → good ≡ fits (get_or xs k no_slot) m l → whole ≡ both fit (fits_from xs k m (lines_from t i)) → whole ≡ both (both fit good) (fits_from xs (k + one_of l) (model_next m l) (lines_from t (i + 1)))
unfolding fits_from
fits_step t xs i k m l whole fit good h e g w =
    let a : fits_from xs k m (lines_from t i) ≡ both good (fits_from xs (k + one_of l) (model_next m l) (lines_from t (i + 1))) =
    ap (λ (ls : List Line). fits_from xs k m ls) (lines_next t i h) ∙ rw (← e, ← g) in
    w ∙ (ap (λ (b : Bool). both fit b) a ∙ both_assoc fit good _)

pub fits_done : (t : List ℕ) (xs : List Slot) (i k m : ℕ) (whole fit : Bool) → length t ≤ 81 * i → whole ≡ both fit (fits_from xs k m (lines_from t i)) → fit ≡ whole
unfolding fits_from both
fits_done t xs i k m whole fit h w = sym (w ∙ (ap (λ (ls : List Line). both fit (fits_from xs k m ls)) (lines_done t i h) ∙ same fit))
  where
    same : (b : Bool) → pick b true false ≡ b
    same true = refl
    same false = refl

-- ---- counting the lines that stay
pub kept_step : (t : List ℕ) (xs : List Slot) (i k n whole : ℕ) (l : Line) (stay : Bool) → 81 * i < length t → l ≡ row t i → stay ≡ stays xs k l
    → n + kept_from xs k (lines_from t i) ≡ whole → n + pick stay 1 0 + kept_from xs (k + one_of l) (lines_from t (i + 1)) ≡ whole
unfolding kept_from
kept_step t xs i k n whole l stay h e g w =
    let a : kept_from xs k (lines_from t i) ≡ pick stay 1 0 + kept_from xs (k + one_of l) (lines_from t (i + 1)) =
    ap (λ (ls : List Line). kept_from xs k ls) (lines_next t i h) ∙ rw (← e, ← g) in
    omega arith

pub kept_done : (t : List ℕ) (xs : List Slot) (i k n whole : ℕ) → length t ≤ 81 * i → n + kept_from xs k (lines_from t i) ≡ whole → n ≡ whole
unfolding kept_from
kept_done t xs i k n whole h w =
    let a : kept_from xs k (lines_from t i) ≡ 0 = ap (λ (ls : List Line). kept_from xs k ls) (lines_done t i h) in
    omega arith

-- ---- counting the MODEL and ENDMDL lines
pub fences_step : (t : List ℕ) (i n whole : ℕ) (l : Line) (b : Bool) → 81 * i < length t → l ≡ row t i → b ≡ is_fence l
    → n + fences_from (lines_from t i) ≡ whole → n + pick b 1 0 + fences_from (lines_from t (i + 1)) ≡ whole
unfolding fences_from
fences_step t i n whole l b h e g w =
    let a : fences_from (lines_from t i) ≡ pick b 1 0 + fences_from (lines_from t (i + 1)) = ap fences_from (lines_next t i h) ∙ rw (← e, ← g) in
    omega arith

pub fences_done : (t : List ℕ) (i n whole : ℕ) → length t ≤ 81 * i → n + fences_from (lines_from t i) ≡ whole → n ≡ whole
unfolding fences_from
fences_done t i n whole h w = let a : fences_from (lines_from t i) ≡ 0 = ap fences_from (lines_done t i h) in omega arith
