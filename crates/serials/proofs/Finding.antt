-- Looking for the line of a serial in a block of lines with rising serials. Assumes nothing.
use Rattle.std.proofs.Common.{Option, Some, None}
use Prim.Native.Nat.{ℕ, ◌≤◌, ◌<◌}
use mathlib.Core.List.{List}
use mathlib.Core.Bool.{Bool, true, false, false≢true, true≢false}
use mathlib.Core.Path.{◌≡◌, refl, sym, ◌∙◌}
use native.Mathlib.Omega.{arith}
use native.Mathlib.Nat.{lt_of_lt_of_le, le_trans}
use borrow.Author.Tests.{ltb-true, ltb-false, eqb-true}
use lib.Dec.{ltb}
use lib.ListN.{take}
use Rattle.fields.specs.Field.{ranged_number}
use Rattle.pieces.specs.declared.Line.{Line}
use Rattle.facets.specs.declared.Spot.{Spot}
use Rattle.facets.specs.declared.Spot.TheVariants.{Site, Close}
use Rattle.facets.specs.Facets.{spot_in, is_spot, is_coord}
use Rattle.rules.specs.declared.State.{State}
use Rattle.search.specs.declared.Span.{Span}
use Rattle.search.specs.Search.{part_of, Bracket}
use Rattle.search.proofs.Halving.{part_held}
use Rattle.pieces.specs.Pieces.{line_of}
use Rattle.rows.specs.Text.{piece_at, row, down}
use Rattle.serials.specs.Known.{is_atom, is_site, named}
use Rattle.serials.specs.declared.Earlier.{Earlier}
use Rattle.serials.specs.Search.{spot_serial, serial_of, base_of, Block, Behind, Rising, Stands, Finds}
use Rattle.serials.proofs.Block.{base_le, some_at, some_none, block_off}
use Rattle.serials.proofs.Rows.{coord_serial, piece_serial}

-- ---- an ATOM or HETATM line with serial x is a coordinate line with that serial
atom_serial : (p : Option Spot) (x : ℕ) → is_atom x p ≡ true → spot_serial p ≡ x
atom_serial (Some (Site het a)) x e = eqb-true _ _ e
atom_serial (Some (Close t)) x e = absurd (false≢true e)
atom_serial None x e = absurd (false≢true e)

site_coord : (p : Option Spot) (x : ℕ) → is_spot p ≡ false → is_atom x p ≡ false
site_coord (Some (Site het a)) x e = absurd (true≢false e)
site_coord (Some (Close t)) x e = refl
site_coord None x e = refl

-- a line of another serial is not the one
not_site : (l : Line) (x : ℕ) → (serial_of l ≡ x → ⊥) → is_site x l ≡ false
not_site l x h = go (is_site x l) refl
  where
    go : (b : Bool) → is_site x l ≡ b → b ≡ false
    go true e = absurd (h (atom_serial (spot_in l) x e))
    go false e = refl

-- columns 7-11 do not fit
pub other_site : (p : List ℕ) (x v : ℕ) → v ≡ (ranged_number 5 0 1 99999 (take 80 p) 6).value → (v ≡ x → ⊥) → false ≡ is_site x (line_of p)
other_site p x v e h = sym (go (is_coord (line_of p)) refl)
  where
    go : (b : Bool) → is_coord (line_of p) ≡ b → is_site x (line_of p) ≡ false
    go true c = not_site (line_of p) x (λ q. h (e ∙ sym (piece_serial p c) ∙ q))
    go false c = site_coord (spot_in (line_of p)) x c

-- ---- a look at line m, where v is read
pub look_held : (t : List ℕ) (lo hi x : ℕ) (s : Span) (m v : ℕ) → Rising t lo hi → Bracket (λ j. serial_of (row t j)) lo hi x s.lo s.hi → s.lo ≤ m → m < s.hi
    → v ≡ (ranged_number 5 0 1 99999 (take 80 (piece_at t m)) 6).value
    → Bracket (λ j. serial_of (row t j)) lo hi x (part_of s m v x).lo (part_of s m v x).hi
look_held t lo hi x s m v R B h g e =
    part_held (λ j. serial_of (row t j)) lo hi x s m v R.rise B h g
    (e ∙ sym (coord_serial t m (R.coord m (le_trans B.lo_a h) (lt_of_lt_of_le g B.z_hi))))

-- the search ends: the line at the bracket decides
pub finds_not : (L : ℕ → Line) (lo hi x m : ℕ) → ((j k : ℕ) → lo ≤ j → j < k → k < hi → serial_of (L j) < serial_of (L k))
    → Bracket (λ j. serial_of (L j)) lo hi x m m → m < hi → is_site x (L m) ≡ false → Finds L lo hi x None
finds_not L lo hi x m r B h e = λ j l k. go j l k (ltb j m) refl (ltb m j) refl
  where
    go : (j : ℕ) → lo ≤ j → j < hi → (b : Bool) → ltb j m ≡ b → (d : Bool) → ltb m j ≡ d → is_site x (L j) ≡ false
    go j l k true u d v = not_site (L j) x (λ q. omega (arith, B.below j l (ltb-true j m u)))
    go j l k false u true v = not_site (L j) x (λ q. omega (arith, B.above m (omega arith) h, r m j B.lo_a (ltb-true m j v) k))
    go j l k false u false v =
        let same : m ≡ j = omega (arith, ltb-false j m u, ltb-false m j v) in
        rw same at e

pub finds_none : (L : ℕ → Line) (lo hi x m : ℕ) → Bracket (λ j. serial_of (L j)) lo hi x m m → hi ≤ m → Finds L lo hi x None
finds_none L lo hi x m B h j l k = not_site (L j) x (λ q. omega (arith, B.below j l (omega arith)))

-- what is found in the block is what is named in all the lines so far
pub found_named : (L : ℕ → Line) (n : ℕ) (b : Span) (s : State) (x j : ℕ) → Block L n b s → Finds L b.lo b.hi x (Some j) → true ≡ named (down L n) x
found_named L n b s x j B f = sym (some_at (is_site x) L n j (omega (arith, B.hi_le, f.1)) f.2)

-- ---- the models that are shut
-- the first of them was searched, the lines after it were gone through
pub stood_first : (L : ℕ → Line) (lo hi end x j : ℕ) → hi ≤ end → Finds L lo hi x (Some j) → Stands L lo end x true
stood_first L lo hi end x j h f = (j, f.0, omega (arith, f.1), f.2)

pub stood_rest : (L : ℕ → Line) (lo hi end x : ℕ) (r : Bool) → lo ≤ hi → Finds L lo hi x None → Stands L hi end x r → Stands L lo end x r
stood_rest L lo hi end x true h f (j, g, k, e) = (j, omega arith, k, e)
stood_rest L lo hi end x false h f s = λ j g k. go j g k (ltb j hi) refl
  where
    go : (j : ℕ) → lo ≤ j → j < end → (y : Bool) → ltb j hi ≡ y → is_site x (L j) ≡ false
    go j g k true u = f j g (ltb-true _ _ u)
    go j g k false u = s j (ltb-false _ _ u) k

-- x stands in no block: it is named by none of the lines so far
nowhere_named : (L : ℕ → Line) (n : ℕ) (b : Span) (e : Earlier) (s : State) (x : ℕ) → Block L n b s → Behind L n e → Finds L b.lo b.hi x None
    → Stands L e.first.lo e.end x false → false ≡ named (down L n) x
nowhere_named L n b e s x B E f g = sym (some_none (is_site x) L n (λ j h. go j h (ltb j (base_of L n)) refl (ltb j e.first.lo) refl (ltb j e.end) refl))
  where
    off : (l : Line) → is_coord l ≡ false → is_site x l ≡ false
    off l = site_coord (spot_in l) x

    go : (j : ℕ) → j < n → (y : Bool) → ltb j (base_of L n) ≡ y → (z : Bool) → ltb j e.first.lo ≡ z → (w : Bool) → ltb j e.end ≡ w → is_site x (L j) ≡ false
    go j h false u z v w p = block_off (is_site x) off L n b s B f j (ltb-false _ _ u) h
    go j h true u true v w p = off (L j) (E.low j (ltb-true _ _ v))
    go j h true u false v true p = g j (ltb-false _ _ v) (ltb-true _ _ p)
    go j h true u false v false p = off (L j) (E.high j (ltb-false _ _ p) (ltb-true _ _ u))

pub rest_named : (L : ℕ → Line) (n : ℕ) (b : Span) (e : Earlier) (s : State) (x : ℕ) (r : Bool) → Block L n b s → Behind L n e → Finds L b.lo b.hi x None
    → Stands L e.first.lo e.end x r → r ≡ named (down L n) x
rest_named L n b e s x true B E f (j, g, k, h) = sym (some_at (is_site x) L n j (omega (arith, E.end_base, base_le L n)) h)
rest_named L n b e s x false B E f g = nowhere_named L n b e s x B E f g
