-- The arm `_` of `read_kind` has the kinds whose columns are not read by the table, and such a kind reads to nothing typed. Assumes nothing.
use Prim.Native.Nat.{ℕ}
use mathlib.Core.List.{List, [], ◌∷◌}
use mathlib.Core.Bool.{Bool, true, false, not}
use mathlib.Core.Path.{◌≡◌, refl, sym, ◌∙◌, ap}
use denote.Enum.Declared.{tag_of}
use lib.Dec.{T}
use mir.Val.{has_key}
use types.Run.{OneOf, miss}
use borrow.Author.Tests.{ne_eqb}
use Rattle.ascii.specs.Tests.{pick}
use Rattle.ascii.proofs.Choice.{never}
use Rattle.kinds.specs.contracts.Kind as kind-type
use Rattle.kinds.proofs.First.{same_name, each}
use Rattle.kinds.specs.declared.Kind.{Kind}
use Rattle.kinds.specs.declared.Kind.TheVariants as kind
use Rattle.kinds.specs.Kinds.{row_of, is, is_typed}
use Rattle.std.specs.Prelude.{Err}
use Rattle.line.specs.declared.unread.Unread.TheVariants.{Untyped}
use Rattle.line.specs.Lines.{crystal_read, reading_of}

not_typed : (k : Kind) (l : List ℕ) → is_typed k ≡ false → reading_of k l ≡ (Err Untyped)
unfolding reading_of crystal_read
not_typed k l e = rw (no kind.Atom refl, no kind.Hetatm refl, no kind.Ter refl, no kind.Helix refl, no kind.Sheet refl, no kind.Conect refl, no kind.Master refl, no kind.End refl, no kind.Model refl, no kind.Endmdl refl, no kind.Cryst1 refl, no kind.Origx1 refl, no kind.Origx2 refl, no kind.Origx3 refl, no kind.Scale1 refl, no kind.Scale2 refl, no kind.Scale3 refl)
  where
    no : (a : Kind) → is_typed a ≡ true → is a k ≡ false
    no a t = ne_eqb (row_of a).name (row_of k).name (λ q. never (sym e ∙ sym (ap is_typed (same_name a k q)) ∙ t))

-- the places of the arm's kinds among the kinds
abbrev pub others : List ℕ
others = 0 ∷ 1 ∷ 2 ∷ 3 ∷ 4 ∷ 5 ∷ 6 ∷ 7 ∷ 8 ∷ 9 ∷ 10 ∷ 11 ∷ 27 ∷ []

abbrev apart : Kind → Bool
apart k = pick (is_typed k) (not (has_key others (tag_of kind-type.the_type k))) true

pub untyped : (k : Kind) (l : List ℕ) → OneOf others (tag_of kind-type.the_type k) → reading_of k l ≡ (Err Untyped)
untyped k l e = not_typed k l (go (is_typed k) (each apart tt k))
  where
    go : (b : Bool) → T (pick b (not (has_key others (tag_of kind-type.the_type k))) true) → b ≡ false
    go true h = absurd (miss others (tag_of kind-type.the_type k) h e)
    go false h = refl
