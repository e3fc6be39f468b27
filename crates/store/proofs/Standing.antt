-- Looking for the atoms that a line names among the slots before it, model by model.
-- Assumes nothing.
use Prim.Native.Nat.{ℕ, zero, suc, ◌+◌, ◌*◌, ◌-◌, ◌≤◌, ◌<◌}
use mathlib.Core.List.{List, [], ◌∷◌}
use mathlib.Core.Bool.{Bool, true, false, not}
use mathlib.Core.Path.{◌≡◌, refl, sym, ◌∙◌, ap}
use native.Mathlib.Omega.{arith}
use native.Mathlib.Nat.{le_refl, not-suc-le-zero, le_of_suc-le-suc}
use borrow.Author.Tests.{ltb-true, ltb-false, ne_eqb, eqb-true, eqb-false, leb-true}
use lib.Dec.{eqb, ltb, leb}
use lib.ListN.{length, get_or, take}
use Rattle.ascii.specs.Tests.{pick, both, either}
use Rattle.ascii.proofs.Choice.{both_split, both_no}
use Rattle.conect.specs.declared.Conect.{Conect}
use Rattle.pieces.specs.declared.Line.{Line}
use Rattle.facets.specs.Facets as facets
use Rattle.facets.specs.Facets.{is_coord}
use Rattle.search.specs.declared.Span.{Span}
use Rattle.search.specs.Search.{part_of, Bracket}
use Rattle.search.proofs.Halving.{part_held}
use Rattle.slots.specs.declared.Slot.{Slot}
use Rattle.slots.specs.Slots.{no_slot, mark_aside}
use Rattle.fragments.specs.Fragments.{is_ter}
use Rattle.table.specs.Deal.{is_in, stands_in, partner_in, bond_in, stays}
use Rattle.bonds.specs.Bonds.{conect_in, is_conect}
use Rattle.bonds.proofs.Naming.{bond_stays_lem}
use Rattle.store.specs.Judged.{is_small, rank_of, rank_at, Rises, StandsAs}

-- ---- a look at slot m
pub slot_held : (xs : List Slot) (hi x : ℕ) (s : Span) (m v : ℕ) (here : Slot) → here ≡ get_or xs m no_slot → v ≡ rank_of here → s.lo ≤ m → m < s.hi
    → Rises xs hi → Bracket (rank_at xs) 0 hi x s.lo s.hi → Bracket (rank_at xs) 0 hi x (part_of s m v x).lo (part_of s m v x).hi
slot_held xs hi x s m v here e f h g R B = part_held (rank_at xs) 0 hi x s m v R.rise B h g (f ∙ ap rank_of e)

-- ---- an atom that is in, among the first k slots
other_serial : (x : ℕ) (s : Slot) → (s.serial.0 ≡ x → ⊥) → is_in x s ≡ false
unfolding is_in
other_serial x s n = rw (ne_eqb s.serial.0 x n, both_no (not (is_ter s)), both_no (not (eqb s.mark mark_aside)))

pub in_none : (xs : List Slot) (k x : ℕ) → ((j : ℕ) → j < k → is_in x (get_or xs j no_slot) ≡ false) → stands_in (take k xs) x ≡ false
unfolding stands_in either
in_none [] zero x h = refl
in_none [] (suc k) x h = refl
in_none (y ∷ xs) zero x h = refl
in_none (y ∷ xs) (suc k) x h = rw (h 0 (omega arith), in_none xs k x (λ j g. h (suc j) (omega arith)))

either_yes : (a : Bool) → either a true ≡ true
unfolding either
either_yes true = refl
either_yes false = refl

pub in_at : (xs : List Slot) (k x j : ℕ) → j < k → j < length xs → is_in x (get_or xs j no_slot) ≡ true → stands_in (take k xs) x ≡ true
unfolding stands_in either
in_at [] k x j h l e = absurd (omega arith)
in_at (y ∷ xs) zero x j h l e = absurd (not-suc-le-zero h)
in_at (y ∷ xs) (suc k) x zero h l e = rw e
in_at (y ∷ xs) (suc k) x (suc j) h l e = rw (in_at xs k x j (le_of_suc-le-suc h) (omega arith) e) (either_yes (is_in x y))

-- ---- a slot of model m with serial x is where the search for their number ends
pub small_parts : (s : Slot) → is_small s ≡ true → (s.model ≤ 9999) × (s.serial.0 ≤ 99999)
small_parts s e = let h = both_split (leb s.model 9999) (leb s.serial.0 99999) e in (leb-true _ _ h.0, leb-true _ _ h.1)

pub rank_small : (s : Slot) → is_small s ≡ true → rank_of s ≡ 100000 * s.model + s.serial.0
unfolding rank_of
rank_small s e = rw e

pub rank_none : (s : Slot) → is_small s ≡ false → rank_of s ≡ 0
unfolding rank_of
rank_none s e = rw e

-- models do not fall
pub models_rise : (xs : List Slot) (k : ℕ) → Rises xs k → (a b : ℕ) → a ≤ b → b < k → (get_or xs a no_slot).model ≤ (get_or xs b no_slot).model
models_rise xs k R a b h g = go (ltb a b) refl
  where
    go : (y : Bool) → ltb a b ≡ y → (get_or xs a no_slot).model ≤ (get_or xs b no_slot).model
    go true u =
        let sa = R.small a (omega arith) in
        let sb = R.small b g in
        omega (arith, R.rise a b (omega arith) (ltb-true _ _ u) g, rank_small (get_or xs a no_slot) sa, rank_small (get_or xs b no_slot) sb, (small_parts (get_or xs a no_slot) sa).1, (small_parts (get_or xs b no_slot) sb).1)
    go false u = let z : a ≡ b = omega (arith, ltb-false a b u) in rw z (le_refl _)

-- no slot of model m is that atom and in, where the slot at the bracket is not
pub model_none : (xs : List Slot) (k m x at : ℕ) → Rises xs k → x ≤ 99999 → Bracket (rank_at xs) 0 k (100000 * m + x) at at → (at < k → is_in x (get_or xs at no_slot) ≡ false)
    → (j : ℕ) → j < k → (get_or xs j no_slot).model ≡ m → is_in x (get_or xs j no_slot) ≡ false
model_none xs k m x at R hx B none j g e = go (eqb (get_or xs j no_slot).serial.0 x) refl (ltb j at) refl (ltb at j) refl
  where
    rank : (get_or xs j no_slot).serial.0 ≡ x → rank_at xs j ≡ 100000 * m + x
    rank q = rank_small (get_or xs j no_slot) (R.small j g) ∙ rw (e, q)

    go : (y : Bool) → eqb (get_or xs j no_slot).serial.0 x ≡ y → (b : Bool) → ltb j at ≡ b → (d : Bool) → ltb at j ≡ d → is_in x (get_or xs j no_slot) ≡ false
    go false y b u d v = other_serial x (get_or xs j no_slot) (eqb-false _ _ y)
    go true y true u d v = absurd (omega (arith, B.below j (omega arith) (ltb-true _ _ u), rank (eqb-true _ _ y)))
    go true y false u true v =
        absurd (omega (arith, rank (eqb-true _ _ y), R.rise at j (omega arith) (ltb-true _ _ v) g, B.above at (le_refl at) (omega (arith, ltb-true at j v))))
    go true y false u false v = let z : at ≡ j = omega (arith, ltb-false j at u, ltb-false at j v) in rw z at (none (omega arith))

-- what a search in one model says
pub stands_as : (xs : List Slot) (k m x at : ℕ) (here : Slot) (e b : Bool) → Rises xs k → x ≤ 99999 → Bracket (rank_at xs) 0 k (100000 * m + x) at at
    → here ≡ get_or xs at no_slot → e ≡ is_in x here → b ≡ both (ltb at k) e → StandsAs xs k m x b
unfolding both
stands_as xs k m x at here e b R hx B eh ee eb = go e ee (ltb at k) refl b eb
  where
    go : (e : Bool) → e ≡ is_in x here → (y : Bool) → ltb at k ≡ y → (b : Bool) → b ≡ pick y e false → StandsAs xs k m x b
    go true q true y b z = rw z (in_at xs k x at (ltb-true _ _ y) (omega (arith, ltb-true at k y, R.within)) (rw eh at (sym q)))
    go false q true y b z = rw z (model_none xs k m x at R hx B (λ g. rw eh at (sym q)))
    go e q false y b z = rw z (model_none xs k m x at R hx B (λ g. absurd (omega (arith, ltb-false at k y))))

pub stands_yes : (xs : List Slot) (k m x : ℕ) (b : Bool) → StandsAs xs k m x b → b ≡ true → stands_in (take k xs) x ≡ true
stands_yes xs k m x b S e = rw e at S

pub stands_no : (xs : List Slot) (k m x : ℕ) (b : Bool) → StandsAs xs k m x b → b ≡ false → StandsAs xs k m x false
stands_no xs k m x b S e = rw e at S

-- ---- one model after the other
-- no slot of a model before m is that atom and in
abbrev pub NoneBefore : List Slot → ℕ → ℕ → ℕ → Type 0
NoneBefore xs k m x = (j : ℕ) → j < k → (get_or xs j no_slot).model < m → is_in x (get_or xs j no_slot) ≡ false

pub none_start : (xs : List Slot) (k x m : ℕ) (first : Slot) → Rises xs k → (k ≡ 0 → ⊥) → first ≡ get_or xs 0 no_slot → (first.model ≤ 9999 → m ≡ first.model) → NoneBefore xs k m x
none_start xs k x m first R n e w j g h =
    let s : first.model ≤ 9999 = rw e (small_parts (get_or xs 0 no_slot) (R.small 0 (omega arith))).0 in
    let z : m ≡ (get_or xs 0 no_slot).model = w s ∙ ap (λ (s : Slot). s.model) e in
    absurd (omega (arith, z, models_rise xs k R 0 j (omega arith) g))

pub none_next : (xs : List Slot) (k m x : ℕ) → NoneBefore xs k m x → StandsAs xs k m x false → NoneBefore xs k (m + 1) x
none_next xs k m x N S j g h = go (ltb (get_or xs j no_slot).model m) refl
  where
    go : (y : Bool) → ltb (get_or xs j no_slot).model m ≡ y → is_in x (get_or xs j no_slot) ≡ false
    go true y = N j g (ltb-true _ _ y)
    go false y = S j g (omega (arith, ltb-false (get_or xs j no_slot).model m y))

pub none_done : (xs : List Slot) (k m x end : ℕ) (last : Slot) → Rises xs k → (k ≡ 0 → ⊥) → NoneBefore xs k m x → last ≡ get_or xs (k - 1) no_slot → (last.model ≤ 9999 → end ≡ last.model)
    → end < m → false ≡ stands_in (take k xs) x
none_done xs k m x end last R n N e w h =
    let s : last.model ≤ 9999 = rw e (small_parts (get_or xs (k - 1) no_slot) (R.small (k - 1) (omega arith))).0 in
    let z : end ≡ (get_or xs (k - 1) no_slot).model = w s ∙ ap (λ (s : Slot). s.model) e in
    sym (in_none xs k x (λ j g. N j g (omega (arith, z, models_rise xs k R j (k - 1) (omega arith) (omega arith)))))

-- no line has a serial above 99999, and there is no slot before the first
pub none_large : (xs : List Slot) (k x : ℕ) → Rises xs k → 99999 < x → false ≡ stands_in (take k xs) x
none_large xs k x R h = sym (in_none xs k x (λ j g. other_serial x (get_or xs j no_slot) (λ e. absurd (omega (arith, e, (small_parts (get_or xs j no_slot) (R.small j g)).1)))))

pub none_yet : (xs : List Slot) (k x : ℕ) → k ≡ 0 → false ≡ stands_in (take k xs) x
none_yet xs k x z = sym (in_none xs k x (λ j g. absurd (omega arith)))

-- ---- the numbers of a CONECT line
pub partner_none : (xs : List Slot) (x : ℕ) → x ≡ 0 → true ≡ partner_in xs x
unfolding either
partner_none xs x z = rw z

pub partner_found : (xs : List Slot) (x : ℕ) (r : Bool) → (x ≡ 0 → ⊥) → r ≡ stands_in xs x → r ≡ partner_in xs x
unfolding either
partner_found xs x r z e = rw (ne_eqb x 0 z) e

-- ---- whether a line stays
module _ (xs : List Slot) (k : ℕ) (l : Line) (a : Bool) (ea : a ≡ is_coord l) where
  pub stays_spot : a ≡ true → (s : Slot) → s ≡ get_or xs k no_slot → (r : Bool) → r ≡ not (eqb s.mark mark_aside) → r ≡ stays xs k l
  unfolding stays
  stays_spot t s es r er = er ∙ rw (sym ea ∙ t, es)

  module _ (f : a ≡ false) (b : Bool) (eb : b ≡ is_conect l) where
    pub stays_bond : b ≡ true → (c : Conect) → c ≡ conect_in l → (r : Bool) → r ≡ bond_in (take k xs) c → r ≡ stays xs k l
    unfolding stays
    stays_bond t c ec r er = er ∙ rw (sym ea ∙ f, bond_stays_lem (take k xs) (facets.bond_in l), sym eb ∙ t, ec)

    pub stays_other : b ≡ false → true ≡ stays xs k l
    unfolding stays
    stays_other g = rw (sym ea ∙ f, bond_stays_lem (take k xs) (facets.bond_in l), sym eb ∙ g)
