-- What a kind is not, and a field that is wrong. Assumes nothing.
use mathlib.Core.Path.{◌≡◌, refl}
use mathlib.Core.Bool.{false}
use Prim.Native.Nat.{ℕ, zero, suc}
use lib.Dec.{eqb}
use borrow.Author.Tests.{ne_eqb}
use Rattle.columns.specs.declared.Column.{Column}
use Rattle.columns.specs.Answers.{read_as}
use Rattle.kinds.specs.declared.Kind.{Kind}
use Rattle.kinds.specs.declared.Kind.TheVariants as kind
use Rattle.kinds.specs.Kinds.{is}
use Rattle.std.specs.Prelude.{None, Err}
use Rattle.crystal.specs.Crystal.{row_number}

pub not_cell : (k : Kind) → (k ≡ kind.Cryst1 → ⊥) → is kind.Cryst1 k ≡ false
not_cell kind.Header f = refl
not_cell kind.Title f = refl
not_cell kind.Compnd f = refl
not_cell kind.Source f = refl
not_cell kind.Keywds f = refl
not_cell kind.Expdta f = refl
not_cell kind.Author f = refl
not_cell kind.Revdat f = refl
not_cell kind.Jrnl f = refl
not_cell kind.Remark f = refl
not_cell kind.Seqres f = refl
not_cell kind.Het f = refl
not_cell kind.Helix f = refl
not_cell kind.Sheet f = refl
not_cell kind.Cryst1 f = absurd (f refl)
not_cell kind.Origx1 f = refl
not_cell kind.Origx2 f = refl
not_cell kind.Origx3 f = refl
not_cell kind.Scale1 f = refl
not_cell kind.Scale2 f = refl
not_cell kind.Scale3 f = refl
not_cell kind.Atom f = refl
not_cell kind.Hetatm f = refl
not_cell kind.Ter f = refl
not_cell kind.Conect f = refl
not_cell kind.Master f = refl
not_cell kind.End f = refl
not_cell kind.Unknown f = refl
not_cell kind.Model f = refl
not_cell kind.Endmdl f = refl

-- ---- which of the six lines
pub row_none : (k : Kind) → (k ≡ kind.Origx1 → ⊥) → (k ≡ kind.Origx2 → ⊥) → (k ≡ kind.Origx3 → ⊥) → (k ≡ kind.Scale1 → ⊥) → (k ≡ kind.Scale2 → ⊥) → (k ≡ kind.Scale3 → ⊥) → None ≡ row_number k
unfolding row_number
row_none kind.Header a b c d e f = refl
row_none kind.Title a b c d e f = refl
row_none kind.Compnd a b c d e f = refl
row_none kind.Source a b c d e f = refl
row_none kind.Keywds a b c d e f = refl
row_none kind.Expdta a b c d e f = refl
row_none kind.Author a b c d e f = refl
row_none kind.Revdat a b c d e f = refl
row_none kind.Jrnl a b c d e f = refl
row_none kind.Remark a b c d e f = refl
row_none kind.Seqres a b c d e f = refl
row_none kind.Het a b c d e f = refl
row_none kind.Helix a b c d e f = refl
row_none kind.Sheet a b c d e f = refl
row_none kind.Cryst1 a b c d e f = refl
row_none kind.Origx1 a b c d e f = absurd (a refl)
row_none kind.Origx2 a b c d e f = absurd (b refl)
row_none kind.Origx3 a b c d e f = absurd (c refl)
row_none kind.Scale1 a b c d e f = absurd (d refl)
row_none kind.Scale2 a b c d e f = absurd (e refl)
row_none kind.Scale3 a b c d e f = absurd (f refl)
row_none kind.Atom a b c d e f = refl
row_none kind.Hetatm a b c d e f = refl
row_none kind.Ter a b c d e f = refl
row_none kind.Conect a b c d e f = refl
row_none kind.Master a b c d e f = refl
row_none kind.End a b c d e f = refl
row_none kind.Unknown a b c d e f = refl
row_none kind.Model a b c d e f = refl
row_none kind.Endmdl a b c d e f = refl

-- ---- a field of it that is wrong
pub wrong_fault : {A : Type 0} (c : Column) (f : ℕ) (v : A) → Err c ≡ read_as f v → eqb f 0 ≡ false
wrong_fault c zero v e = cc
wrong_fault c (suc f) v e = ne_eqb (suc f) 0 (λ z. cc)
