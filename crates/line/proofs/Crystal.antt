-- The lines of the crystal frame by their kinds: CRYST1, and the six transformations.
-- Assumes nothing.
use mathlib.Core.Path.{◌≡◌, refl}
use mathlib.Core.List.{List}
use mathlib.Core.Bool.{Bool, true, false}
use Prim.Native.Nat.{ℕ}
use lib.Dec.{T}
use lib.ListN.{length}
use Rattle.ascii.proofs.Choice.{picks}
use Rattle.ascii.proofs.Clean.{printed}
use Rattle.kinds.specs.declared.Kind.{Kind}
use Rattle.kinds.specs.declared.Kind.TheVariants as kind
use Rattle.kinds.specs.Kinds.{name_text, is, is_named}
use Rattle.cell.specs.Cells.{cell_f}
use Rattle.transform.specs.declared.Axis.{Axis}
use Rattle.transform.specs.declared.Axis.TheVariants.{X, Y, Z}
use Rattle.transform.specs.Transforms.{transform_kind}
use Rattle.line.specs.declared.Record.TheVariants as rec
use Rattle.std.specs.Prelude.{Err}
use Rattle.line.specs.declared.unread.Unread.TheVariants.{Untyped}
use Rattle.line.specs.Lines.{Reading, judged, transform_read, crystal_read}

-- what holds of the reading of CRYST1, of each transformation and of no reading holds of what such a line reads to
pub crystal_cases : (P : Reading → Type 0) (k : Kind) (l : List ℕ) → (is kind.Cryst1 k ≡ true → P (judged (cell_f.fault l 6) (rec.Cell (cell_f.value l 6))))
    → ((scale : Bool) (axis : Axis) → is (transform_kind scale axis) k ≡ true → P (transform_read l scale axis)) → P (Err Untyped) → P (crystal_read k l)
unfolding crystal_read
crystal_cases P k l c t u =
    picks P (is kind.Cryst1 k) _ _ c
    (λ _. picks P (is kind.Origx1 k) _ _ (t false X)
    (λ _. picks P (is kind.Origx2 k) _ _ (t false Y)
    (λ _. picks P (is kind.Origx3 k) _ _ (t false Z)
    (λ _. picks P (is kind.Scale1 k) _ _ (t true X)
    (λ _. picks P (is kind.Scale2 k) _ _ (t true Y)
    (λ _. picks P (is kind.Scale3 k) _ _ (t true Z)
    (λ _. u)))))))

-- ---- the names of the six
-- what holds of each of the six holds of all
pub each_transform : (P : Kind → Type 0) → P kind.Origx1 → P kind.Origx2 → P kind.Origx3 → P kind.Scale1 → P kind.Scale2 → P kind.Scale3
    → (scale : Bool) (axis : Axis) → P (transform_kind scale axis)
each_transform P a b c d e f false X = a
each_transform P a b c d e f false Y = b
each_transform P a b c d e f false Z = c
each_transform P a b c d e f true X = d
each_transform P a b c d e f true Y = e
each_transform P a b c d e f true Z = f

pub transform_name : (scale : Bool) (axis : Axis) → length (name_text (transform_kind scale axis)) ≡ 6
transform_name = each_transform (λ k. length (name_text k) ≡ 6) refl refl refl refl refl refl

pub transform_named : (scale : Bool) (axis : Axis) → is_named (transform_kind scale axis) ≡ true
transform_named = each_transform (λ k. is_named k ≡ true) refl refl refl refl refl refl

pub transform_printed : (scale : Bool) (axis : Axis) → T (printed (name_text (transform_kind scale axis)))
transform_printed = each_transform (λ k. T (printed (name_text k))) tt tt tt tt tt tt
