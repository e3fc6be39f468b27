-- The slots of a table beside the coordinate lines that they belong to: equal serials, TER beside TER, and one mark over a closed run.
-- Assumes nothing.
use Rattle.std.proofs.Common.{Option, Some, None}
use Prim.Native.Nat.{ℕ, suc, ◌+◌, ◌≤◌, ◌<◌}
use mathlib.Core.List.{List, [], ◌∷◌}
use mathlib.Core.Bool.{Bool, true, false, not}
use mathlib.Core.Path.{◌≡◌, refl, sym, ◌∙◌, ap}
use native.Mathlib.Omega.{arith}
use native.Mathlib.Nat.{add-zero}
use native.Mathlib.Numerals.{add-one}
use borrow.Author.Tests.{eqb-true, ne_eqb}
use lib.Dec.{eqb, leb}
use lib.ListN.{length, take, drop, get_or}
use lib.Seq.{drop-cons}
use Rattle.ascii.specs.Tests.{pick, both, either}
use Rattle.ascii.proofs.Choice.{never, both_split}
use Rattle.pieces.specs.declared.Line.{Line}
use Rattle.facets.specs.declared.Spot.{Spot}
use Rattle.facets.specs.declared.Spot.TheVariants.{Site, Close}
use Rattle.facets.specs.declared.Fence.{Fence}
use Rattle.facets.specs.declared.Fence.TheVariants.{Opens, Shuts}
use Rattle.facets.specs.Facets.{spot_in, fence_in, is_spot, is_bound, is_coord, is_fence}
use Rattle.serials.specs.Search.{spot_serial, serial_of}
use Rattle.slots.specs.declared.Slot.{Slot}
use Rattle.fragments.specs.declared.Tail.{Tail}
use Rattle.residue.specs.Residues.{same_residue}
use Rattle.slots.specs.Slots.{mark_aside, no_model, no_slot, spot_slot, line_slot, residue_of, same_measures, same_names, same_slot}
use Rattle.fragments.specs.Fragments.{is_ter, joins, step_tail, tail_of}
use Rattle.table.specs.Table.{model_after, model_next, slots_of, fits, one_of, fits_from}
use Rattle.table.proofs.Rows.{slots_count, slots_any}
use Rattle.serials.proofs.Models.{coord_off}
use Rattle.twins.proofs.Self.{equal}

-- a TER line
abbrev pub spot_closes : Option Spot → Bool
spot_closes (Some (Site het a)) = false
spot_closes (Some (Close t)) = true
spot_closes None = false

abbrev pub line_closes : Line → Bool
line_closes l = spot_closes (spot_in l)

-- a TER line is among these before the next MODEL or ENDMDL: the run that goes on with them is closed
unfoldable pub closes : List Line → Bool
closes [] = false
closes (l ∷ ls) = pick (is_fence l) false (either (line_closes l) (closes ls))

-- slot j is not set aside
abbrev pub in_slot : List Slot → ℕ → Bool
in_slot xs j = not (eqb (get_or xs j no_slot).mark mark_aside)

-- slot j beside the coordinate line l, after which ls come
pub record Beside (xs : List Slot) (j : ℕ) (l : Line) (ls : List Line) : Type 0 where
  pub within : j < length xs
  pub ter : is_ter (get_or xs j no_slot) ≡ line_closes l
  pub serial : (get_or xs j no_slot).serial.0 ≡ serial_of l
  pub agree : line_closes l ≡ false → closes ls ≡ true → in_slot xs j ≡ in_slot xs (j + 1)

-- the slots from slot j on are beside these lines
abbrev pub Paired : List Slot → ℕ → List Line → Type 0
Paired xs j [] = Unit {0}
Paired xs j (l ∷ ls) = (is_coord l ≡ true → Beside xs j l ls) × Paired xs (j + one_of l) ls

-- ---- a slot that fits its line
ter_is : (p : Option Spot) → is_ter (spot_slot p) ≡ spot_closes p
ter_is (Some (Site true a)) = refl
ter_is (Some (Site false a)) = refl
ter_is (Some (Close t)) = refl
ter_is None = refl

serial_is : (p : Option Spot) → (spot_slot p).serial.0 ≡ spot_serial p
serial_is (Some (Site het a)) = refl
serial_is (Some (Close t)) = refl
serial_is None = refl

same_kind : (s t : Slot) → same_slot s t ≡ true → (s.kind ≡ t.kind) × (s.serial.0 ≡ t.serial.0) × (s.model ≡ t.model)
unfolding same_slot
same_kind s t e =
    let w = both_split (both (eqb s.kind t.kind) (eqb s.serial.0 t.serial.0)) _ e in
    let h = both_split (eqb s.kind t.kind) (eqb s.serial.0 t.serial.0) w.0 in
    let m = (both_split (same_measures s t) (eqb s.model t.model) (both_split (same_names s t) _ (both_split (same_residue (residue_of s) (residue_of t)) _ w.1).1).1).1 in
    (eqb-true _ _ h.0, eqb-true _ _ h.1, eqb-true _ _ m)

pub fits_same : (s : Slot) (m : ℕ) (l : Line) → is_coord l ≡ true → fits s m l ≡ true → (is_ter s ≡ line_closes l) × (s.serial.0 ≡ serial_of l) × (s.model ≡ m)
unfolding fits
fits_same s m l c e =
    let f : both (leb s.mark mark_aside) (same_slot s (line_slot m l)) ≡ true = rw c at e in
    let h = same_kind s (line_slot m l) (both_split _ _ f).1 in
    (ap (λ (k : ℕ). eqb k 3) h.0 ∙ ter_is (spot_in l), h.1 ∙ serial_is (spot_in l), h.2)

-- ---- the slots from slot j on, as many as these lines need
abbrev pub rest_of : List Slot → ℕ → List Line → List Slot
rest_of xs j ls = take (length (slots_of no_model ls)) (drop j xs)

need_coord : (l : Line) (ls : List Line) → is_coord l ≡ true → length (slots_of no_model (l ∷ ls)) ≡ suc (length (slots_of no_model ls))
need_coord l ls c = slots_count no_model l ls ∙ rw c (omega (arith, slots_any no_model (model_next no_model l) ls))

need_other : (l : Line) (ls : List Line) → is_coord l ≡ false → length (slots_of no_model (l ∷ ls)) ≡ length (slots_of no_model ls)
need_other l ls c = slots_count no_model l ls ∙ rw c (omega (arith, slots_any no_model (model_next no_model l) ls))

rest_coord : (xs : List Slot) (j : ℕ) (l : Line) (ls : List Line) → is_coord l ≡ true → j < length xs
    → rest_of xs j (l ∷ ls) ≡ get_or xs j no_slot ∷ rest_of xs (j + 1) ls
rest_coord xs j l ls c h = rw (need_coord l ls c, drop-cons xs j no_slot h, add-one j)

rest_other : (xs : List Slot) (j : ℕ) (l : Line) (ls : List Line) → is_coord l ≡ false → rest_of xs j (l ∷ ls) ≡ rest_of xs j ls
rest_other xs j l ls c = rw (need_other l ls c)

other_open : (p : Option Spot) → is_spot p ≡ false → spot_closes p ≡ false
other_open (Some (Site het a)) c = refl
other_open (Some (Close t)) c = c
other_open None c = refl

-- ---- models
-- a coordinate line leaves its model
coord_model : (m : ℕ) (l : Line) → is_coord l ≡ true → model_next m l ≡ m
coord_model m l c = go (fence_in l) refl
  where
    go : (e : Option Fence) → fence_in l ≡ e → model_after m e ≡ m
    go (Some (Opens n)) e = never (sym (coord_off l c) ∙ ap is_bound e)
    go (Some Shuts) e = never (sym (coord_off l c) ∙ ap is_bound e)
    go None e = refl

-- so does any line but MODEL and ENDMDL
plain_model : (m : ℕ) (l : Line) → is_fence l ≡ false → model_next m l ≡ m
plain_model m l f = go (fence_in l) refl
  where
    go : (e : Option Fence) → fence_in l ≡ e → model_after m e ≡ m
    go (Some (Opens n)) e = never (sym f ∙ ap is_bound e)
    go (Some Shuts) e = never (sym f ∙ ap is_bound e)
    go None e = refl

-- the coordinate lines among these, which come after lines that leave model m, are of models above c
abbrev pub Above : ℕ → ℕ → List Line → Type 0
Above c m [] = Unit {0}
Above c m (l ∷ ls) = (is_coord l ≡ true → c < m) × Above c (model_next m l) ls

-- after each MODEL and ENDMDL the models are above the one before it
abbrev pub Fenced : ℕ → List Line → Type 0
Fenced m [] = Unit {0}
Fenced m (l ∷ ls) = (is_fence l ≡ true → Above m (model_next m l) ls) × Fenced (model_next m l) ls

-- what the slots say of the lines after one of model m: whether a TER of that model is among them, and the mark of the first
record Says (xs : List Slot) (j m : ℕ) (ls : List Line) (t : Tail) : Type 0 where
  closed : both (eqb m t.model) t.closed ≡ closes ls
  first : closes ls ≡ true → (t.some ≡ true) × (t.model ≡ m) × (t.mark ≡ (get_or xs j no_slot).mark)

says_coord : (xs : List Slot) (j m : ℕ) (l : Line) (ls : List Line) (t : Tail) → is_coord l ≡ true → is_ter (get_or xs j no_slot) ≡ line_closes l → (get_or xs j no_slot).model ≡ m
    → both (eqb m t.model) t.closed ≡ closes ls → Says xs j m (l ∷ ls) (step_tail (get_or xs j no_slot) t)
unfolding step_tail closes both
says_coord xs j m l ls t c e g f = record { closed = rw (coord_off l c, g, equal m, e) (ap (either (line_closes l)) f); first = λ _. (refl, g, refl) }

says_other : (xs : List Slot) (j m : ℕ) (l : Line) (ls : List Line) (t : Tail) → is_fence l ≡ false → line_closes l ≡ false → Says xs j m ls t → Says xs j m (l ∷ ls) t
unfolding closes either
says_other xs j m l ls t f e S = record { closed = rw (f, e) S.closed; first = rw (f, e) S.first }

-- MODEL and ENDMDL: what comes after is of another model
says_fence : (xs : List Slot) (j m : ℕ) (l : Line) (ls : List Line) (t : Tail) → is_fence l ≡ true → both (eqb m t.model) t.closed ≡ false → Says xs j m (l ∷ ls) t
unfolding closes
says_fence xs j m l ls t f e = record { closed = rw f e; first = λ h. never (rw f at h) }

-- the line's own part of `fits_from`, and the rest
fits_split : (xs : List Slot) (j m : ℕ) (l : Line) (ls : List Line) → fits_from xs j m (l ∷ ls) ≡ true
    → (fits (get_or xs j no_slot) m l ≡ true) × (fits_from xs (j + one_of l) (model_next m l) ls ≡ true)
unfolding fits_from
fits_split xs j m l ls f = both_split (fits (get_or xs j no_slot) m l) (fits_from xs (j + one_of l) (model_next m l) ls) f

-- one of the two is no
apart_models : (c m : ℕ) (b : Bool) → c < m → both (eqb c m) b ≡ false
unfolding both
apart_models c m b h = rw (ne_eqb c m (λ e. omega arith))

pub no_both : (b : Bool) → both b false ≡ false
unfolding both
no_both true = refl
no_both false = refl

-- the slots of lines whose models are above c do not close a run of model c
above_open : (xs : List Slot) (c j m : ℕ) (ls : List Line) → fits_from xs j m ls ≡ true → j + length (slots_of no_model ls) ≤ length xs → Above c m ls
    → both (eqb c (tail_of (rest_of xs j ls)).model) (tail_of (rest_of xs j ls)).closed ≡ false
unfolding tail_of slots_of step_tail
above_open xs c j m [] f h a = no_both (eqb c 0)
above_open xs c j m (l ∷ ls) f h a = go (λ i n. above_open xs c i n ls) (is_coord l) refl
  where
    go : ((i n : ℕ) → fits_from xs i n ls ≡ true → i + length (slots_of no_model ls) ≤ length xs → Above c n ls
        → both (eqb c (tail_of (rest_of xs i ls)).model) (tail_of (rest_of xs i ls)).closed ≡ false)
        → (b : Bool) → is_coord l ≡ b → both (eqb c (tail_of (rest_of xs j (l ∷ ls))).model) (tail_of (rest_of xs j (l ∷ ls))).closed ≡ false
    go again true e =
        let n = need_coord l ls e in
        let q = fits_split xs j m l ls f in
        let w = fits_same _ m l e q.0 in
        rw (rest_coord xs j l ls e (omega arith)) (apart_models c _ _ (omega (arith, w.2, a.0 e)))
    go again false e =
        let n = need_other l ls e in
        let q = fits_split xs j m l ls f in
        rw (rest_other xs j l ls e) (again j (model_next m l) (rw (e, add-zero j) at q.1) (omega arith) a.1)

says : (xs : List Slot) (j m : ℕ) (ls : List Line) → fits_from xs j m ls ≡ true → j + length (slots_of no_model ls) ≤ length xs → Fenced m ls → Says xs j m ls (tail_of (rest_of xs j ls))
unfolding tail_of closes slots_of
says xs j m [] f h a = record { closed = no_both (eqb m 0); first = λ e. never e }
says xs j m (l ∷ ls) f h a = go (λ i n. says xs i n ls) (is_coord l) refl (is_fence l) refl
  where
    go : ((i n : ℕ) → fits_from xs i n ls ≡ true → i + length (slots_of no_model ls) ≤ length xs → Fenced n ls → Says xs i n ls (tail_of (rest_of xs i ls)))
        → (c : Bool) → is_coord l ≡ c → (b : Bool) → is_fence l ≡ b → Says xs j m (l ∷ ls) (tail_of (rest_of xs j (l ∷ ls)))
    go again true c b e =
        let n = need_coord l ls c in
        let q = fits_split xs j m l ls f in
        let g : fits_from xs (j + 1) m ls ≡ true = rw (c, coord_model m l c) at q.1 in
        let F : Fenced m ls = rw (coord_model m l c) at a.1 in
        let w = fits_same _ m l c q.0 in
        rw (rest_coord xs j l ls c (omega arith))
        (says_coord xs j m l ls _ c w.0 w.2 (again (j + 1) m g (omega arith) F).closed)
    go again false c true e =
        let n = need_other l ls c in
        let q = fits_split xs j m l ls f in
        let g : fits_from xs j (model_next m l) ls ≡ true = rw (c, add-zero j) at q.1 in
        rw (rest_other xs j l ls c) (says_fence xs j m l ls _ e (above_open xs m j (model_next m l) ls g (omega arith) (a.0 e)))
    go again false c false e =
        let n = need_other l ls c in
        let q = fits_split xs j m l ls f in
        let g : fits_from xs j m ls ≡ true = rw (c, add-zero j, plain_model m l e) at q.1 in
        let F : Fenced m ls = rw (plain_model m l e) at a.1 in
        rw (rest_other xs j l ls c) (says_other xs j m l ls _ e (other_open (spot_in l) c) (again j m g (omega arith) F))

-- marks agree between neighbours of a closed run
agree_split : (s : Slot) (t : Tail) → (step_tail s t).agree ≡ true → t.agree ≡ true
unfolding step_tail
agree_split s t e = (both_split t.agree _ e).0

agree_first : (s : Slot) (t : Tail) → (step_tail s t).agree ≡ true → is_ter s ≡ false → s.model ≡ t.model → t.closed ≡ true → t.some ≡ true → s.mark ≡ t.mark
unfolding step_tail joins both either
agree_first s t e ter model closed some =
    let f = (both_split t.agree (either (not (joins s t)) (eqb s.mark t.mark)) e).1 in
    eqb-true s.mark t.mark (rw (ter, closed, some, model, equal t.model) at f)

closed_in : (m : ℕ) (t : Tail) (b : Bool) → both (eqb m t.model) t.closed ≡ b → b ≡ true → t.closed ≡ true
closed_in m t b e h = (both_split (eqb m t.model) t.closed (e ∙ h)).1

-- THE PAIRING: slots that fit the lines, in which marks agree inside each fragment
pub paired : (xs : List Slot) (j m : ℕ) (ls : List Line) → fits_from xs j m ls ≡ true → j + length (slots_of no_model ls) ≤ length xs → Fenced m ls
    → (tail_of (rest_of xs j ls)).agree ≡ true → Paired xs j ls
unfolding tail_of
paired xs j m [] f h F a = tt
paired xs j m (l ∷ ls) f h F a = go (λ i n. paired xs i n ls) (is_coord l) refl
  where
    go : ((i n : ℕ) → fits_from xs i n ls ≡ true → i + length (slots_of no_model ls) ≤ length xs → Fenced n ls → (tail_of (rest_of xs i ls)).agree ≡ true → Paired xs i ls)
        → (c : Bool) → is_coord l ≡ c → (is_coord l ≡ true → Beside xs j l ls) × Paired xs (j + one_of l) ls
    go again true c =
        let n = need_coord l ls c in
        let q = fits_split xs j m l ls f in
        let g : fits_from xs (j + 1) m ls ≡ true = rw (c, coord_model m l c) at q.1 in
        let G : Fenced m ls = rw (coord_model m l c) at F.1 in
        let w = fits_same _ m l c q.0 in
        let b : (step_tail (get_or xs j no_slot) (tail_of (rest_of xs (j + 1) ls))).agree ≡ true = rw (rest_coord xs j l ls c (omega arith)) at a in
        let S = says xs (j + 1) m ls g (omega arith) G in (
          λ _. record {
            within = omega arith;
            ter = w.0;
            serial = w.1;
            agree = λ o k. ap (λ (m : ℕ). not (eqb m mark_aside)) (agree_first _ _ b (w.0 ∙ o) (w.2 ∙ sym (S.first k).1) (closed_in m (tail_of (rest_of xs (j + 1) ls)) (closes ls) S.closed k) (S.first k).0 ∙ (S.first k).2);
          },
          rw c (again (j + 1) m g (omega arith) G (agree_split _ _ b)),
        )
    go again false c =
        let n = need_other l ls c in
        let q = fits_split xs j m l ls f in
        let g : fits_from xs j (model_next m l) ls ≡ true = rw (c, add-zero j) at q.1 in
        (λ t. never (sym c ∙ t), rw (c, add-zero j) (again j (model_next m l) g (omega arith) F.1 (rw (rest_other xs j l ls c) at a)))
