-- One law for each `return`. Assumes nothing.
use mathlib.Core.Path.{◌≡◌, sym, ◌∙◌, ap}
use mathlib.Core.List.{List}
use mathlib.Core.Bool.{Bool, true, false}
use Prim.Native.Nat.{ℕ, ◌≤◌, ◌<◌}
use lib.ListN.{length, get_or, take, drop}
use lib.Seq.{get_or-drop}
use borrow.Author.Tests.{eq-eqb, ne_eqb, lt-ltb, le-ltb}
use Rattle.columns.specs.Columns.{clean_at}
use Rattle.kinds.specs.declared.Kind.{Kind}
use Rattle.kinds.specs.Kinds.{kind_of}
use Rattle.line.specs.Lines.{Reading, reading_of}
use Rattle.pieces.specs.declared.Line.{Line}
use Rattle.pieces.specs.declared.Line.TheVariants.{Bad}
use Rattle.pieces.specs.Pieces.{line_in, columns_of, line_of}
use Rattle.refusals.specs.declared.Refusal.TheVariants as refusal

module _ (l : List ℕ) (t : Bool) (e : t ≡ clean_at l 0 80) where
  pub columns_odd : t ≡ false → Bad refusal.Byte ≡ columns_of l
  unfolding columns_of
  columns_odd f = rw (sym e ∙ f)

  pub columns_read : (k : Kind) (x : Reading) (r : Line) → t ≡ true → k ≡ kind_of l → x ≡ reading_of k l → r ≡ line_in k x → r ≡ columns_of l
  unfolding columns_of
  columns_read k x r g ek ex er = rw (sym e ∙ g) (er ∙ ap (line_in k) ex ∙ ap (λ y. line_in y (reading_of y l)) ek)

module _ (p : List ℕ) where
  pub piece_short : length p < 81 → Bad refusal.Length ≡ line_of p
  unfolding line_of
  piece_short h = rw (lt-ltb _ _ h)

  -- what stands behind its 80 columns
  module _ (end : List ℕ) (e : end ≡ drop 80 p) (h : 81 ≤ length p) where
    first : get_or end 0 0 ≡ get_or p 80 0
    first = rw e (get_or-drop 80 p 0 0)

    pub piece_open : (get_or end 0 0 ≡ 10 → ⊥) → Bad refusal.LineEnd ≡ line_of p
    unfolding line_of
    piece_open f = rw (le-ltb _ _ h, ne_eqb _ _ (λ z. f (first ∙ z)))

    pub piece_read : (r : Line) (m : List ℕ) → get_or end 0 0 ≡ 10 → m ≡ take 80 p → r ≡ columns_of m → r ≡ line_of p
    unfolding line_of
    piece_read r m f k q = rw (le-ltb _ _ h, eq-eqb _ _ (sym first ∙ f)) (q ∙ ap columns_of k)
