-- The atom of a line stands among the lines so far if it stands in what is left of their block. Assumes nothing.
use Rattle.std.proofs.lemmas.Bool.{cases_lt}
use Rattle.std.proofs.Common.{Option, Some, None}
use Prim.Native.Nat.{ℕ, ◌+◌, ◌*◌, ◌≤◌, ◌<◌}
use mathlib.Core.List.{List}
use mathlib.Core.Logic.{⊎_elim}
use mathlib.Core.Bool.{Bool, true, false, true≢false, false≢true}
use mathlib.Core.Path.{◌≡◌, refl, sym, ◌∙◌, ap, subst}
use native.Mathlib.Omega.{arith}
use borrow.Author.Count.{below_more}
use borrow.Author.Tests.{ltb-true, ltb-false}
use lib.Dec.{ltb}
use lib.ListN.{length, length-take, length-drop}
use Rattle.ascii.specs.Tests.{pick}
use Rattle.coordinate.specs.declared.Identity.{Identity}
use Rattle.coordinate.specs.declared.Atom.{Atom}
use Rattle.pieces.specs.declared.Line.{Line}
use Rattle.pieces.specs.declared.Line.TheVariants.{Bad}
use Rattle.pieces.specs.Pieces.{line_of}
use Rattle.facets.specs.declared.Spot.{Spot}
use Rattle.facets.specs.declared.Spot.TheVariants.{Site, Close}
use Rattle.facets.specs.Facets.{spot_in, is_spot, is_coord, is_fence}
use Rattle.rules.specs.declared.State.{State}
use Rattle.search.specs.declared.Span.{Span}
use Rattle.search.specs.Search.{span, including}
use Rattle.rows.specs.Text.{piece_at, row, down}
use Rattle.serials.specs.Known.{some_of, front}
use Rattle.serials.specs.Search.{grow_of, Block}
use Rattle.serials.proofs.Rows.{piece_long}
use Rattle.serials.proofs.Block.{front_at, front_none, block_off}
use Rattle.trail.specs.declared.Watch.{Watch}
use Rattle.trail.specs.Trail.{Unlike, Watched}
use Rattle.twins.specs.Twins.{is_atom_of, is_twin}
use Rattle.twins.specs.Standing.{Stands}
use Rattle.twins.proofs.Self.{atom_self}
use Rattle.twins.proofs.Columns.{twin_columns}
use Rattle.refusals.specs.declared.Refusal.TheVariants as refusal

-- ---- a look through lines
-- what would follow of a line that is the atom does not hold: it is not
pub ruled_out : {P : Type 0} (b : Bool) → (b ≡ true → P) → (P → ⊥) → false ≡ b
ruled_out true f g = absurd (g (f refl))
ruled_out false f g = refl

pub stands_more : (a : Identity) (L : ℕ → Line) (lo n : ℕ) → Stands a L lo n false → is_twin a (L n) ≡ false → Stands a L lo (n + 1) false
stands_more a L lo n h e j g k = below_more (λ (i : ℕ). lo ≤ i → is_twin a (L i) ≡ false) n (λ i k' g'. h i g' k') (λ g'. e) j k g

-- ---- the line of a piece
pub row_piece : (t : List ℕ) (i : ℕ) (p : List ℕ) → p ≡ piece_at t i → line_of p ≡ row t i
unfolding row
row_piece t i p e = ap line_of e

-- ---- a line with a slot is whole
long_within : (t : List ℕ) (i : ℕ) → 81 * i ≤ length t → 81 ≤ length (piece_at t i) → 81 * i + 81 ≤ length t
unfolding piece_at
long_within t i g h = omega (arith, simp (length-take, length-drop) at h)

coord_typed : (l : Line) → is_coord l ≡ true → l ≡ Bad refusal.Length → ⊥
coord_typed l c e = false≢true (sym (ap is_coord e) ∙ c)

pub coord_long : (t : List ℕ) (i : ℕ) (l : Line) → 81 * i < length t → l ≡ row t i → is_coord l ≡ true → 81 * i + 81 ≤ length t
unfolding row
coord_long t i l h e c = long_within t i (omega arith) (piece_long (piece_at t i) (λ q. coord_typed l c (e ∙ q)))

-- ---- what is known of the block that the line leaves
pub watched_other : (t : List ℕ) (b : Span) (i : ℕ) (l : Line) (w : Watch) → is_coord l ≡ false → Watched t (pick (is_fence l) (span 0 0) b) w → Watched t (grow_of b i l) w
watched_other t b i l w e h = subst (λ (x : Bool). Watched t (pick (is_fence l) (span 0 0) (pick x (including b i) b)) w) (sym e) h

-- ---- the line is the atom that is looked for
pub twin_self : (l m : Line) (p : Option Spot) (het : Bool) (a : Atom) → l ≡ m → p ≡ spot_in l → p ≡ Some (Site het a) → is_twin a.identity m ≡ true
twin_self l m p het a el ep es = rw (← el, ← ep, es) (atom_self a.identity)

-- ---- only a coordinate line is an atom
twin_off : (a : Identity) (p : Option Spot) → is_spot p ≡ false → is_atom_of a p ≡ false
twin_off a (Some (Site het b)) e = absurd (true≢false e)
twin_off a (Some (Close t)) e = refl
twin_off a None e = refl

-- what stands from `start` on is what stands among the lines since the last MODEL or ENDMDL
pub stands_told : (t : List ℕ) (n : ℕ) (b : Span) (s : State) → Block (row t) n b s → (a : Identity) (p : List ℕ) → is_twin a (line_of p) ≡ true
    → (start : ℕ) → b.lo ≤ start → Unlike t b.lo start p → (r : Bool) → Stands a (row t) start b.hi r → r ≡ some_of (is_twin a) (front (down (row t) n))
unfolding row
stands_told t n b s B a p e start low apart true f =
    sym (front_at (is_twin a) (row t) n f.0 (omega (arith, B.based (omega (arith, f.1, f.2)), f.1)) (omega (arith, B.hi_le, f.2)) f.3)
stands_told t n b s B a p e start low apart false f =
    sym (front_none (is_twin a) (row t) n (block_off (is_twin a) (λ l. twin_off a (spot_in l)) (row t) n b s B (λ j g h. go j g h (ltb j start) refl (is_twin a (row t j)) refl)))
  where
    go : (j : ℕ) → b.lo ≤ j → j < b.hi → (x : Bool) → ltb j start ≡ x → (y : Bool) → is_twin a (row t j) ≡ y → y ≡ false
    go j g h x u false v = refl
    go j g h true u true v =
        let w = twin_columns a p (piece_at t j) e v in
        absurd (apart j g (ltb-true _ _ u) w.0 w.1)
    go j g h false u true v = sym v ∙ f j (ltb-false _ _ u) h

-- ---- lines that are ruled out by their columns, one stretch after the other
pub unlike_join : (t : List ℕ) (lo m n : ℕ) (p : List ℕ) → Unlike t lo m p → Unlike t m n p → Unlike t lo n p
unlike_join t lo m n p f g j h k d e = ⊎_elim (λ (l : j < m). f j h l d e) (λ (l : m ≤ j). g j l k d e) (cases_lt j m)
