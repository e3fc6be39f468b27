-- What is remembered of the models that are shut. Assumes nothing.
use Prim.Native.Nat.{ℕ, ◌+◌, ◌≤◌, ◌<◌}
use mathlib.Core.Bool.{Bool, true, false, not, false≢true}
use mathlib.Core.Path.{◌≡◌, refl, sym, ◌∙◌}
use native.Mathlib.Omega.{arith}
use borrow.Author.Tests.{ltb-true, ltb-false}
use lib.Dec.{ltb}
use Rattle.ascii.specs.Tests.{pick, both}
use Rattle.line.specs.declared.Record.TheVariants.{Coordinate, Ter, Helix, Sheet, Conect, Master, End, Model, Endmdl, Cell, Transform}
use Rattle.pieces.specs.declared.Line.{Line}
use Rattle.pieces.specs.declared.Line.TheVariants.{Bad, Wrong, Carried, Typed}
use Rattle.facets.specs.Facets.{is_coord, is_fence}
use Rattle.rules.specs.declared.State.{State}
use Rattle.search.specs.declared.Span.{Span}
use Rattle.serials.specs.declared.Earlier.{Earlier}
use Rattle.serials.specs.Search.{has_line, shut_of, earlier_of, no_earlier, base_of, Block, Behind}
use Rattle.serials.proofs.Block.{base_same, base_fence, base_le, outside}

-- MODEL and ENDMDL are no coordinate lines
pub fence_off : (l : Line) → is_fence l ≡ true → is_coord l ≡ false
fence_off (Bad n) e = absurd (false≢true e)
fence_off (Wrong k column) e = absurd (false≢true e)
fence_off (Carried k) e = absurd (false≢true e)
fence_off (Typed (Coordinate het a)) e = absurd (false≢true e)
fence_off (Typed (Ter t)) e = absurd (false≢true e)
fence_off (Typed (Helix h)) e = absurd (false≢true e)
fence_off (Typed (Sheet s)) e = absurd (false≢true e)
fence_off (Typed (Conect c)) e = absurd (false≢true e)
fence_off (Typed (Master t)) e = absurd (false≢true e)
fence_off (Typed End) e = absurd (false≢true e)
fence_off (Typed (Model m)) e = refl
fence_off (Typed Endmdl) e = refl
fence_off (Typed (Cell c)) e = absurd (false≢true e)
fence_off (Typed (Transform scale axis t)) e = absurd (false≢true e)

-- nor the other way round
pub coord_off : (l : Line) → is_coord l ≡ true → is_fence l ≡ false
coord_off l c = go (is_fence l) refl
  where
    go : (b : Bool) → is_fence l ≡ b → b ≡ false
    go true e = absurd (false≢true (sym (fence_off l e) ∙ c))
    go false e = refl

pub behind_start : (L : ℕ → Line) → Behind L 0 no_earlier
unfolding base_of
behind_start L =
    record {
      lo_le = omega arith;
      hi_end = omega arith;
      end_base = omega arith;
      empty = λ h. refl;
      coord = λ j g k. absurd (omega arith);
      rise = λ j i g jk k. absurd (omega arith);
      low = λ j g. absurd (omega arith);
      high = λ j g k. absurd (omega arith);
    }

behind_same : (L : ℕ → Line) (n : ℕ) (e : Earlier) → is_fence (L n) ≡ false → Behind L n e → Behind L (n + 1) e
behind_same L n e f E =
    let base = base_same L n f in
    record {
      lo_le = E.lo_le;
      hi_end = E.hi_end;
      end_base = omega (arith, base, E.end_base);
      empty = E.empty;
      coord = E.coord;
      rise = E.rise;
      low = E.low;
      high = λ j g k. E.high j g (omega (arith, base));
    }

-- before the base nothing is a coordinate line, where no model had one
none_before : (L : ℕ → Line) (n : ℕ) (e : Earlier) → Behind L n e → e.first.hi ≤ e.first.lo → (j : ℕ) → j < base_of L n → is_coord (L j) ≡ false
none_before L n e E h j k = E.high j (omega (arith, E.empty h)) k

module _ (L : ℕ → Line) (n : ℕ) (b : Span) (s : State) (e : Earlier) (f : is_fence (L n) ≡ true) (B : Block L n b s) (E : Behind L n e) where
  -- the lines from the end of a block on, with MODEL or ENDMDL itself
  after : (end j : ℕ) → ((i : ℕ) → end ≤ i → i < n → is_coord (L i) ≡ false) → end ≤ j → j < base_of L (n + 1) → is_coord (L j) ≡ false
  after end j h g k = go (ltb j n) refl
    where
      go : (y : Bool) → ltb j n ≡ y → is_coord (L j) ≡ false
      go true u = h j g (ltb-true _ _ u)
      go false u =
          let q : j ≡ n = omega (arith, ltb-false j n u, base_fence L n f) in
          rw q (fence_off (L n) f)

  -- the model had no coordinate line
  shut_empty : b.hi ≤ b.lo → Behind L (n + 1) e
  shut_empty h =
      record {
        lo_le = E.lo_le;
        hi_end = E.hi_end;
        end_base = omega (arith, base_fence L n f, base_le L n, E.end_base);
        empty = E.empty;
        coord = E.coord;
        rise = E.rise;
        low = E.low;
        high = λ j g k. after e.end j (λ i x y. go i x y (ltb i (base_of L n)) refl) g k;
      }
    where
      go : (i : ℕ) → e.end ≤ i → i < n → (y : Bool) → ltb i (base_of L n) ≡ y → is_coord (L i) ≡ false
      go i x y true u = E.high i x (ltb-true _ _ u)
      go i x y false u = outside L n b s B h i (ltb-false _ _ u) y

  past_block : b.lo < b.hi → (i : ℕ) → b.hi ≤ i → i < n → is_coord (L i) ≡ false
  past_block h i x y = B.high i (omega (arith, B.based h)) x y

  -- it had some, and a model before it too
  shut_more : b.lo < b.hi → e.first.lo < e.first.hi → Behind L (n + 1) (record { first = e.first; end = b.hi })
  shut_more h g =
      record {
        lo_le = E.lo_le;
        hi_end = omega (arith, E.hi_end, E.end_base, B.based h);
        end_base = omega (arith, base_fence L n f, B.hi_le);
        empty = λ k. absurd (omega arith);
        coord = E.coord;
        rise = E.rise;
        low = E.low;
        high = λ j x k. after b.hi j (past_block h) x k;
      }

  -- it is the first that had some
  shut_first : b.lo < b.hi → e.first.hi ≤ e.first.lo → Behind L (n + 1) (record { first = b; end = b.hi })
  shut_first h g =
      record {
        lo_le = B.lo_le;
        hi_end = omega arith;
        end_base = omega (arith, base_fence L n f, B.hi_le);
        empty = λ k. absurd (omega arith);
        coord = B.coord;
        rise = B.rise;
        low = λ j k. go j k (ltb j (base_of L n)) refl;
        high = λ j x k. after b.hi j (past_block h) x k;
      }
    where
      go : (j : ℕ) → j < b.lo → (y : Bool) → ltb j (base_of L n) ≡ y → is_coord (L j) ≡ false
      go j k true u = none_before L n e E g j (ltb-true _ _ u)
      go j k false u = B.low j (ltb-false _ _ u) k

  behind_fence : Behind L (n + 1) (shut_of b e)
  unfolding both
  behind_fence = go (has_line b) refl (has_line e.first) refl
    where
      go : (x : Bool) → has_line b ≡ x → (y : Bool) → has_line e.first ≡ y
          → Behind L (n + 1) (record { first = pick (both x (not y)) b e.first; end = pick x b.hi e.end })
      go true u true v = shut_more (ltb-true _ _ u) (ltb-true _ _ v)
      go true u false v = shut_first (ltb-true _ _ u) (ltb-false _ _ v)
      go false u y v = shut_empty (ltb-false _ _ u)

-- a line more
pub behind_next : (L : ℕ → Line) (n : ℕ) (b : Span) (s : State) (e : Earlier) → Block L n b s → Behind L n e → Behind L (n + 1) (earlier_of b e (L n))
behind_next L n b s e B E = go (is_fence (L n)) refl
  where
    go : (x : Bool) → is_fence (L n) ≡ x → Behind L (n + 1) (pick x (shut_of b e) e)
    go true u = behind_fence L n b s e u B E
    go false u = behind_same L n e u E
