-- The coordinate lines of a text stand in one block, in the order of their serials. So a serial can be looked for by halving.
-- Assumes nothing.
use Prim.Native.Nat.{ℕ, suc, zero, ◌+◌, ◌≤◌, ◌<◌}
use native.Mathlib.Numerals.{add-one}
use mathlib.Core.Bool.{Bool, true, false}
use mathlib.Core.List.{[], ◌∷◌}
use mathlib.Core.Path.{◌≡◌, refl, sym, ap}
use mathlib.Core.Logic.{inl, inr, ⊎_elim}
use native.Mathlib.Omega.{arith}
use borrow.Author.Count.{below_more}
use borrow.Author.Tests.{ltb-true, ltb-false, leb-false}
use lib.Dec.{ltb}
use Rattle.ascii.specs.Tests.{pick, either}
use Rattle.ascii.proofs.Choice.{either_left, either_right}
use Rattle.kinds.specs.declared.Kind.{Kind}
use Rattle.transform.specs.declared.Axis.{Axis}
use Rattle.transform.specs.Transforms.{transform_kind}
use Rattle.line.proofs.Crystal.{each_transform}
use Rattle.kinds.specs.declared.Kind.TheVariants.{Header, Title, Compnd, Source, Keywds, Expdta, Author, Revdat, Jrnl, Remark, Seqres, Het, Helix, Sheet, Cryst1, Origx1, Origx2, Origx3, Scale1, Scale2, Scale3, Atom, Hetatm, Ter, Conect, Master, End, Unknown, Model, Endmdl}
use Rattle.kinds.specs.Kinds.{row_of}
use Rattle.line.specs.declared.Record.{Record}
use Rattle.line.specs.declared.Record.TheVariants.{Coordinate}
use Rattle.line.specs.declared.Record.TheVariants as rec
use Rattle.pieces.specs.declared.Line.{Line}
use Rattle.pieces.specs.declared.Line.TheVariants.{Typed}
use Rattle.rules.specs.declared.State.{State}
use Rattle.places.specs.Places.{place_bad, coordinate_place}
use Rattle.rules.specs.Rules.{carried_next, typed_next}
use Rattle.places.proofs.Laws.{place_low, place_high}
use Rattle.rules.proofs.Laws.{Good}
use Rattle.rules.specs.declared.Looked.{Looked}
use Rattle.search.specs.declared.Span.{Span}
use Rattle.search.specs.Search.{span}
use Rattle.facets.specs.Facets.{is_coord, is_fence}
use Rattle.rows.specs.Text.{down}
use Rattle.serials.specs.Known.{some_of, front}
use Rattle.serials.specs.Search.{serial_of, grow_of, base_of, Before, Block}

-- ---- where the lines since the last MODEL or ENDMDL begin
pub base_same : (L : ℕ → Line) (n : ℕ) → is_fence (L n) ≡ false → base_of L (n + 1) ≡ base_of L n
unfolding base_of
base_same L n e = rw (add-one n, e)

pub base_fence : (L : ℕ → Line) (n : ℕ) → is_fence (L n) ≡ true → base_of L (n + 1) ≡ n + 1
unfolding base_of
base_fence L n e = rw (add-one n, e)

pub base_le : (L : ℕ → Line) (n : ℕ) → base_of L n ≤ n
unfolding base_of
base_le L zero = omega arith
base_le L (suc n) = go (is_fence (L n)) (base_le L n)
  where
    go : (b : Bool) → base_of L n ≤ n → pick b (suc n) (base_of L n) ≤ suc n
    go true h = omega arith
    go false h = omega arith

-- a line that is no coordinate line, and no MODEL or ENDMDL, leaves the block
grow_other : (L : ℕ → Line) (n : ℕ) (b : Span) (s t : State) → Block L n b s → is_coord (L n) ≡ false → is_fence (L n) ≡ false → t.last ≡ s.last
    → (t.place ≡ coordinate_place → ⊥) → (Before t.place → Before s.place) → Block L (n + 1) b t
grow_other L n b s t B c f e p q =
    let base = base_same L n f in
    record {
      lo_le = B.lo_le;
      hi_le = omega arith;
      coord = B.coord;
      rise = B.rise;
      top = rw e B.top;
      based = λ h. omega (arith, base, B.based h);
      low = λ j x h. B.low j (omega (arith, base)) h;
      high = λ j x h g. below_more (λ (k : ℕ). base_of L n ≤ k → b.hi ≤ k → is_coord (L k) ≡ false) n (λ k g' x' h'. B.high k x' h' g') (λ x' h'. c) j g (omega (arith, base)) h;
      early = λ h. B.early (q h);
      open_end = λ g h. absurd (p h);
    }

-- outside of an empty block nothing is a coordinate line
pub outside : (L : ℕ → Line) (n : ℕ) (b : Span) (s : State) → Block L n b s → b.hi ≤ b.lo → (j : ℕ) → base_of L n ≤ j → j < n → is_coord (L j) ≡ false
outside L n b s B e j x h = go (ltb j b.lo) refl
  where
    go : (y : Bool) → ltb j b.lo ≡ y → is_coord (L j) ≡ false
    go true t = B.low j x (ltb-true _ _ t)
    go false t = B.high j x (omega (arith, ltb-false j b.lo t)) h

-- a coordinate line with a higher serial, at a place not past them, comes to the block's end
grow_more : (L : ℕ → Line) (n : ℕ) (b : Span) (s t : State) → Block L n b s → is_coord (L n) ≡ true → is_fence (L n) ≡ false → s.last.0 < serial_of (L n)
    → s.place ≤ coordinate_place → t.place ≡ coordinate_place → t.last.0 ≡ serial_of (L n) → b.lo < b.hi → Block L (n + 1) (record { lo = b.lo; hi = n + 1 }) t
grow_more L n b s t B c f r p p' e h =
    let base = base_same L n f in
    let there : s.place ≡ coordinate_place = after_early B.early in
    let hn : b.hi ≡ n = B.open_end h there in
    record {
      lo_le = omega arith;
      hi_le = omega arith;
      coord = λ j g k. below_more (λ (i : ℕ). b.lo ≤ i → is_coord (L i) ≡ true) n (λ i k' g'. B.coord i g' (omega arith)) (λ g'. c) j k g;
      rise = λ j i g jk k. below_more (λ (m : ℕ). (j : ℕ) → b.lo ≤ j → j < m → serial_of (L j) < serial_of (L m)) n (λ m k' j' g' jm. B.rise j' m g' jm (omega arith)) (λ j' g' jm. omega (arith, B.top j' g' (omega arith))) i k j g jk;
      top = rw e (λ j g k. below_more (λ (i : ℕ). b.lo ≤ i → serial_of (L i) ≤ serial_of (L n)) n (λ i k' g'. omega (arith, B.top i g' (omega arith))) (λ g'. omega arith) j k g);
      based = λ g. omega (arith, base, B.based h);
      low = λ j x g. B.low j (omega (arith, base)) g;
      high = λ j x g k. absurd (omega arith);
      early = λ g. absurd (⊎_elim (λ x. omega arith) (λ x. omega arith) g);
      open_end = λ g x. refl;
    }
  where
    after_early : (Before s.place → b.lo ≡ b.hi) → s.place ≡ coordinate_place
    after_early q = go (ltb s.place coordinate_place) refl
      where
        go : (x : Bool) → ltb s.place coordinate_place ≡ x → s.place ≡ coordinate_place
        go true u = absurd (omega (arith, q (inl (ltb-true s.place coordinate_place u))))
        go false u = omega (arith, ltb-false s.place coordinate_place u)

-- the first coordinate line makes a block of one
grow_first : (L : ℕ → Line) (n : ℕ) (b : Span) (s t : State) → Block L n b s → is_coord (L n) ≡ true → is_fence (L n) ≡ false
    → t.place ≡ coordinate_place → t.last.0 ≡ serial_of (L n) → b.hi ≤ b.lo → Block L (n + 1) (record { lo = n; hi = n + 1 }) t
grow_first L n b s t B c f p' e h =
    let base = base_same L n f in
    record {
      lo_le = omega arith;
      hi_le = omega arith;
      coord = λ j g k. below_more (λ (i : ℕ). n ≤ i → is_coord (L i) ≡ true) n (λ i k' g'. absurd (omega arith)) (λ g'. c) j k g;
      rise = λ j i g jk k. absurd (omega arith);
      top = rw e (λ j g k. below_more (λ (i : ℕ). n ≤ i → serial_of (L i) ≤ serial_of (L n)) n (λ i k' g'. absurd (omega arith)) (λ g'. omega arith) j k g);
      based = λ g. omega (arith, base, base_le L n);
      low = λ j x g. outside L n b s B h j (omega (arith, base)) g;
      high = λ j x g k. absurd (omega arith);
      early = λ g. absurd (⊎_elim (λ x. omega arith) (λ x. omega arith) g);
      open_end = λ g x. refl;
    }

grow_coord : (L : ℕ → Line) (n : ℕ) (b : Span) (s t : State) → Block L n b s → is_coord (L n) ≡ true → is_fence (L n) ≡ false → s.last.0 < serial_of (L n)
    → s.place ≤ coordinate_place → t.place ≡ coordinate_place → t.last.0 ≡ serial_of (L n) → Block L (n + 1) (record { lo = pick (ltb b.lo b.hi) b.lo n; hi = n + 1 }) t
grow_coord L n b s t B c f r p p' e = go (ltb b.lo b.hi) refl
  where
    go : (x : Bool) → ltb b.lo b.hi ≡ x → Block L (n + 1) (record { lo = pick x b.lo n; hi = n + 1 }) t
    go true u = grow_more L n b s t B c f r p p' e (ltb-true _ _ u)
    go false u = grow_first L n b s t B c f p' e (ltb-false _ _ u)

-- MODEL and ENDMDL begin a new block, which is empty
grow_fence : (L : ℕ → Line) (n : ℕ) (t : State) → is_fence (L n) ≡ true → Block L (n + 1) (span 0 0) t
grow_fence L n t f =
    let base = base_fence L n f in
    record {
      lo_le = omega arith;
      hi_le = omega arith;
      coord = λ j g k. absurd (omega arith);
      rise = λ j i g jk k. absurd (omega arith);
      top = λ j g k. absurd (omega arith);
      based = λ g. absurd (omega arith);
      low = λ j x g. absurd (omega arith);
      high = λ j x g k. absurd (omega (arith, base));
      early = λ g. refl;
      open_end = λ g x. absurd (omega arith);
    }

-- ---- a good line more
-- a kind with a place before the coordinate lines follows only such places
pub before_kind : (k : Kind) (p : ℕ) → place_bad p k ≡ false → Before (row_of k).here → Before p
before_kind k p e = go k (place_low p k e) (place_high p k e)
  where
    go : (k : Kind) → (row_of k).low ≤ p → p ≤ (row_of k).high → Before (row_of k).here → Before p
    go Header low high b = inl (omega arith)
    go Title low high b = inl (omega arith)
    go Compnd low high b = inl (omega arith)
    go Source low high b = inl (omega arith)
    go Keywds low high b = inl (omega arith)
    go Expdta low high b = inl (omega arith)
    go Author low high b = inl (omega arith)
    go Revdat low high b = inl (omega arith)
    go Jrnl low high b = inl (omega arith)
    go Remark low high b = inl (omega arith)
    go Seqres low high b = inl (omega arith)
    go Het low high b = inl (omega arith)
    go Helix low high b = inl (omega arith)
    go Sheet low high b = inl (omega arith)
    go Cryst1 low high b = inl (omega arith)
    go Origx1 low high b = inl (omega arith)
    go Origx2 low high b = inr (omega arith)
    go Origx3 low high b = inr (omega arith)
    go Scale1 low high b = inl (omega arith)
    go Scale2 low high b = inr (omega arith)
    go Scale3 low high b = inr (omega arith)
    go Atom low high b = absurd (⊎_elim (λ x. omega arith) (λ x. omega arith) b)
    go Hetatm low high b = absurd (⊎_elim (λ x. omega arith) (λ x. omega arith) b)
    go Ter low high b = absurd (⊎_elim (λ x. omega arith) (λ x. omega arith) b)
    go Conect low high b = absurd (⊎_elim (λ x. omega arith) (λ x. omega arith) b)
    go Master low high b = absurd (⊎_elim (λ x. omega arith) (λ x. omega arith) b)
    go End low high b = absurd (⊎_elim (λ x. omega arith) (λ x. omega arith) b)
    go Unknown low high b = absurd (omega arith)
    go Model low high b = absurd (⊎_elim (λ x. omega arith) (λ x. omega arith) b)
    go Endmdl low high b = absurd (⊎_elim (λ x. omega arith) (λ x. omega arith) b)

-- a carried kind whose place is that of the coordinate lines: there is none, but a carried ATOM could be written down
pub grow_carried : (L : ℕ → Line) (n : ℕ) (b : Span) (s : State) (k : Kind) → Block L n b s → is_coord (L n) ≡ false → is_fence (L n) ≡ false → place_bad s.place k ≡ false
    → ((row_of k).here ≡ coordinate_place → ⊥) → Block L (n + 1) b (carried_next s k)
unfolding carried_next
grow_carried L n b s k B c f p away = grow_other L n b s _ B c f refl away (before_kind k s.place p)

transform_away : (scale : Bool) (axis : Axis) → (row_of (transform_kind scale axis)).here ≡ coordinate_place → ⊥
transform_away =
    each_transform (λ k. (row_of k).here ≡ coordinate_place → ⊥) (λ x. omega arith) (λ x. omega arith) (λ x. omega arith) (λ x. omega arith) (λ x. omega arith) (λ x. omega arith)

pub grow_typed : (L : ℕ → Line) (n : ℕ) (b : Span) (s : State) (r : Record) (look : Looked) → Block L n b s → L n ≡ Typed r → Good look s r
    → Block L (n + 1) (grow_of b n (Typed r)) (typed_next s r)
unfolding typed_next
grow_typed L n b s (Coordinate true a) look B e g =
    grow_coord L n b s _ B (ap is_coord e) (ap is_fence e) (rw e (leb-false _ _ g.serial)) (place_high s.place Hetatm g.place) refl (sym (ap serial_of e))
grow_typed L n b s (Coordinate false a) look B e g =
    grow_coord L n b s _ B (ap is_coord e) (ap is_fence e) (rw e (leb-false _ _ g.serial)) (place_high s.place Atom g.place) refl (sym (ap serial_of e))
grow_typed L n b s (rec.Ter t) look B e g =
    grow_coord L n b s _ B (ap is_coord e) (ap is_fence e) (rw e (leb-false _ _ g.serial)) (place_high s.place Ter g.place) refl (sym (ap serial_of e))
grow_typed L n b s (rec.Helix h) look B e g = grow_other L n b s _ B (ap is_coord e) (ap is_fence e) refl (λ x. omega arith) (before_kind Helix s.place g.place)
grow_typed L n b s (rec.Sheet t) look B e g = grow_other L n b s _ B (ap is_coord e) (ap is_fence e) refl (λ x. omega arith) (before_kind Sheet s.place g.place)
grow_typed L n b s (rec.Conect c) look B e g = grow_other L n b s _ B (ap is_coord e) (ap is_fence e) refl (λ x. omega arith) (before_kind Conect s.place g.place)
grow_typed L n b s (rec.Master t) look B e g = grow_other L n b s _ B (ap is_coord e) (ap is_fence e) refl (λ x. omega arith) (before_kind Master s.place g.place)
grow_typed L n b s rec.End look B e g = grow_other L n b s _ B (ap is_coord e) (ap is_fence e) refl (λ x. omega arith) (before_kind End s.place g.place)
grow_typed L n b s (rec.Model m) look B e g = grow_fence L n _ (ap is_fence e)
grow_typed L n b s rec.Endmdl look B e g = grow_fence L n _ (ap is_fence e)
grow_typed L n b s (rec.Cell c) look B e g = grow_other L n b s _ B (ap is_coord e) (ap is_fence e) refl (λ x. omega arith) (before_kind Cryst1 s.place g.place)
grow_typed L n b s (rec.Transform scale axis t) look B e g =
    grow_other L n b s _ B (ap is_coord e) (ap is_fence e) refl (transform_away scale axis) (before_kind (transform_kind scale axis) s.place g.place)

-- a test that one of the lines so far passes
pub some_at : (f : Line → Bool) (L : ℕ → Line) (n j : ℕ) → j < n → f (L j) ≡ true → some_of f (down L n) ≡ true
unfolding some_of down
some_at f L zero j h e = absurd (omega arith)
some_at f L (suc n) j h e = go (λ g. some_at f L n j g e) (ltb j n) refl
  where
    go : (j < n → some_of f (down L n) ≡ true) → (y : Bool) → ltb j n ≡ y → either (f (L n)) (some_of f (down L n)) ≡ true
    go r true u = either_right (f (L n)) (some_of f (down L n)) (r (ltb-true _ _ u))
    go r false u =
        let same : j ≡ n = omega (arith, ltb-false j n u) in
        either_left (f (L n)) (some_of f (down L n)) (rw same at e)

pub some_none : (f : Line → Bool) (L : ℕ → Line) (n : ℕ) → ((j : ℕ) → j < n → f (L j) ≡ false) → some_of f (down L n) ≡ false
unfolding some_of down either
some_none f L zero h = refl
some_none f L (suc n) h = rw (h n (omega arith)) (some_none f L n (λ j g. h j (omega arith)))

-- a test that is false off the coordinate lines, and that none of the block passes, is passed by none of the lines since the last MODEL or ENDMDL
pub block_off : (f : Line → Bool) → ((l : Line) → is_coord l ≡ false → f l ≡ false) → (L : ℕ → Line) (n : ℕ) (b : Span) (s : State) → Block L n b s
    → ((j : ℕ) → b.lo ≤ j → j < b.hi → f (L j) ≡ false) → (j : ℕ) → base_of L n ≤ j → j < n → f (L j) ≡ false
block_off f off L n b s B none j x h = go (ltb j b.lo) refl (ltb j b.hi) refl
  where
    go : (y : Bool) → ltb j b.lo ≡ y → (z : Bool) → ltb j b.hi ≡ z → f (L j) ≡ false
    go true u z v = off (L j) (B.low j x (ltb-true _ _ u))
    go false u true v = none j (ltb-false _ _ u) (ltb-true _ _ v)
    go false u false v = off (L j) (B.high j x (ltb-false _ _ v) h)

-- ---- the lines since the last MODEL or ENDMDL are those from the base on
pub front_at : (f : Line → Bool) (L : ℕ → Line) (n j : ℕ) → base_of L n ≤ j → j < n → f (L j) ≡ true → some_of f (front (down L n)) ≡ true
unfolding some_of down front base_of
front_at f L zero j b h e = absurd (omega arith)
front_at f L (suc n) j b h e = go (λ x g. front_at f L n j x g e) (is_fence (L n)) refl b
  where
    later : (base_of L n ≤ j → j < n → some_of f (front (down L n)) ≡ true) → base_of L n ≤ j → (y : Bool) → ltb j n ≡ y → either (f (L n)) (some_of f (front (down L n))) ≡ true
    later r x true u = either_right (f (L n)) (some_of f (front (down L n))) (r x (ltb-true _ _ u))
    later r x false u =
        let same : j ≡ n = omega (arith, ltb-false j n u) in
        either_left (f (L n)) (some_of f (front (down L n))) (rw same at e)

    go : (base_of L n ≤ j → j < n → some_of f (front (down L n)) ≡ true) → (y : Bool) → is_fence (L n) ≡ y → pick y (suc n) (base_of L n) ≤ j → some_of f (pick y [] (L n ∷ front (down L n))) ≡ true
    go r true u x = absurd (omega arith)
    go r false u x = later r x (ltb j n) refl

pub front_none : (f : Line → Bool) (L : ℕ → Line) (n : ℕ) → ((j : ℕ) → base_of L n ≤ j → j < n → f (L j) ≡ false) → some_of f (front (down L n)) ≡ false
unfolding some_of down front base_of either
front_none f L zero h = refl
front_none f L (suc n) h = go (front_none f L n) (is_fence (L n)) refl h
  where
    go : (((j : ℕ) → base_of L n ≤ j → j < n → f (L j) ≡ false) → some_of f (front (down L n)) ≡ false) → (y : Bool) → is_fence (L n) ≡ y
        → ((j : ℕ) → pick y (suc n) (base_of L n) ≤ j → j < suc n → f (L j) ≡ false) → some_of f (pick y [] (L n ∷ front (down L n))) ≡ false
    go r true u x = refl
    go r false u x = rw (x n (base_le L n) (omega arith)) (r (λ j g k. x j g (omega arith)))
