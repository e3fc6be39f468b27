-- The column that comes with 6 is the first of the leftmost field that is wrong.
-- Assumes nothing.
use mathlib.Core.Path.{◌≡◌, refl, sym, ◌∙◌, ap, subst}
use mathlib.Core.List.{List}
use mathlib.Core.Bool.{true, false≢true}
use Prim.Native.Nat.{ℕ}
use native.Mathlib.Omega.{arith}
use lib.Dec.{eqb}
use lib.ListN.{length}
use borrow.Author.Tests.{eqb-true, eqb-false, eq-eqb}
use Rattle.ascii.specs.Tests.{either}
use Rattle.ascii.proofs.Choice.{picks}
use Rattle.columns.specs.Columns.{clean_at}
use Rattle.fields.specs.Format.{Format, leftmost_wrong, SideBySide, Leftmost}
use Rattle.fields.proofs.Sides.{leftmost_of}
use Rattle.fields.proofs.Formats.{Lawful}
use Rattle.kinds.specs.declared.Kind.{Kind}
use Rattle.kinds.specs.declared.Kind.TheVariants as kind
use Rattle.kinds.specs.Kinds.{is, is_typed, kind_of}
use Rattle.coordinate.specs.Atoms.{atom_f}
use Rattle.coordinate.proofs.Laws.{atom_lawful}
use Rattle.ter.specs.Ters.{ter_f}
use Rattle.ter.proofs.Laws.{ter_lawful}
use Rattle.helix.specs.Helices.{helix_f}
use Rattle.helix.proofs.Laws.{helix_lawful}
use Rattle.sheet.specs.Sheets.{sheet_f}
use Rattle.sheet.proofs.Laws.{sheet_lawful}
use Rattle.conect.specs.Conects.{conect_f}
use Rattle.conect.proofs.Laws.{conect_lawful}
use Rattle.master.specs.Masters.{master_f}
use Rattle.master.proofs.Laws.{master_lawful}
use Rattle.model.specs.Models.{model_f}
use Rattle.model.proofs.Laws.{model_lawful}
use Rattle.cell.specs.Cells.{cell_f}
use Rattle.cell.proofs.Laws.{cell_lawful}
use Rattle.transform.specs.Transforms.{transform_f}
use Rattle.transform.proofs.Laws.{transform_lawful}
use Rattle.line.specs.declared.Record.{Record}
use Rattle.std.specs.Prelude.{Ok, Err}
use Rattle.refusals.specs.declared.Refusal.TheVariants.{Length, Byte}
use Rattle.line.specs.declared.unread.Unread.TheVariants.{Wrong, Untyped}
use Rattle.line.specs.declared.unread.Misread.TheVariants.{Refused}
use Rattle.line.specs.Lines.{Reading, Answer, bare_f, judged, crystal_read, reading_of, answer_of, read_line, answer_number, answer_column, fields_of}
use Rattle.line.specs.Promise.{Columns}
use Rattle.line.proofs.Crystal.{crystal_cases}
use Rattle.line.proofs.RoundTrip.{bare_lawful}

-- ---- by kind
judged_column : (c : ℕ) (r : Record) → answer_column (answer_of (judged c r)) ≡ c
unfolding judged
judged_column c r = picks (λ (x : Reading). answer_column (answer_of x) ≡ c) (eqb c 0) (Ok r) (Err (Wrong (record { 0 = c }))) (λ t. sym (eqb-true c 0 t)) (λ _. refl)

-- what holds of a kind with its lawful format
module _ {A : Type 0} (F : Format A) (f : Lawful F 6) (w : F.width ≡ 74) (l : List ℕ) (h : length l ≡ 80) (r : Record) where
  kind_column : (answer_column (answer_of (judged (F.fault l 6) r)) ≡ leftmost_wrong (F.fields l 6)) × SideBySide 7 (F.fields l 6) 81
  kind_column = (judged_column (F.fault l 6) r ∙ f.named l (omega arith), subst (λ (n : ℕ). SideBySide 7 (F.fields l 6) n) (omega arith) (f.filled l))

by_kind : (l : List ℕ) → length l ≡ 80 → (k : Kind) → is_typed k ≡ true → (answer_column (answer_of (reading_of k l)) ≡ leftmost_wrong (fields_of k l)) × SideBySide 7 (fields_of k l) 81
unfolding reading_of crystal_read fields_of either
by_kind l h kind.Atom t = kind_column atom_f atom_lawful refl l h _
by_kind l h kind.Hetatm t = kind_column atom_f atom_lawful refl l h _
by_kind l h kind.Ter t = kind_column ter_f ter_lawful refl l h _
by_kind l h kind.Helix t = kind_column helix_f helix_lawful refl l h _
by_kind l h kind.Sheet t = kind_column sheet_f sheet_lawful refl l h _
by_kind l h kind.Conect t = kind_column conect_f conect_lawful refl l h _
by_kind l h kind.Master t = kind_column master_f master_lawful refl l h _
by_kind l h kind.Model t = kind_column model_f model_lawful refl l h _
by_kind l h kind.End t = kind_column bare_f bare_lawful refl l h _
by_kind l h kind.Endmdl t = kind_column bare_f bare_lawful refl l h _
by_kind l h kind.Cryst1 t = kind_column cell_f cell_lawful refl l h _
by_kind l h kind.Origx1 t = kind_column transform_f transform_lawful refl l h _
by_kind l h kind.Origx2 t = kind_column transform_f transform_lawful refl l h _
by_kind l h kind.Origx3 t = kind_column transform_f transform_lawful refl l h _
by_kind l h kind.Scale1 t = kind_column transform_f transform_lawful refl l h _
by_kind l h kind.Scale2 t = kind_column transform_f transform_lawful refl l h _
by_kind l h kind.Scale3 t = kind_column transform_f transform_lawful refl l h _
by_kind l h kind.Header t = absurd (false≢true t)
by_kind l h kind.Title t = absurd (false≢true t)
by_kind l h kind.Compnd t = absurd (false≢true t)
by_kind l h kind.Source t = absurd (false≢true t)
by_kind l h kind.Keywds t = absurd (false≢true t)
by_kind l h kind.Expdta t = absurd (false≢true t)
by_kind l h kind.Author t = absurd (false≢true t)
by_kind l h kind.Revdat t = absurd (false≢true t)
by_kind l h kind.Jrnl t = absurd (false≢true t)
by_kind l h kind.Remark t = absurd (false≢true t)
by_kind l h kind.Seqres t = absurd (false≢true t)
by_kind l h kind.Het t = absurd (false≢true t)
by_kind l h kind.Unknown t = absurd (false≢true t)

-- ---- 6 exactly if there is a column
-- a reading is wrong only at a column
abbrev AtColumn : Reading → Type 0
AtColumn x = answer_number (answer_of x) ≡ 6 → answer_column (answer_of x) ≡ 0 → ⊥

judged_wrong : (c : ℕ) (r : Record) → AtColumn (judged c r)
unfolding judged
judged_wrong c r = picks AtColumn (eqb c 0) (Ok r) (Err (Wrong (record { 0 = c }))) (λ _ e z. omega arith) (λ t e z. eqb-false c 0 t z)

untyped_right : AtColumn (Err Untyped)
untyped_right e z = omega arith

reading_wrong : (k : Kind) (l : List ℕ) → AtColumn (reading_of k l)
unfolding reading_of
reading_wrong k l =
    picks AtColumn (is kind.Atom k) _ _ (λ _. judged_wrong _ _)
    (λ _. picks AtColumn (is kind.Hetatm k) _ _ (λ _. judged_wrong _ _)
    (λ _. picks AtColumn (is kind.Ter k) _ _ (λ _. judged_wrong _ _)
    (λ _. picks AtColumn (is kind.Helix k) _ _ (λ _. judged_wrong _ _)
    (λ _. picks AtColumn (is kind.Sheet k) _ _ (λ _. judged_wrong _ _)
    (λ _. picks AtColumn (is kind.Conect k) _ _ (λ _. judged_wrong _ _)
    (λ _. picks AtColumn (is kind.Master k) _ _ (λ _. judged_wrong _ _)
    (λ _. picks AtColumn (is kind.End k) _ _ (λ _. judged_wrong _ _)
    (λ _. picks AtColumn (is kind.Model k) _ _ (λ _. judged_wrong _ _)
    (λ _. picks AtColumn (is kind.Endmdl k) _ _ (λ _. judged_wrong _ _)
    (λ _. crystal_cases AtColumn k l (λ _. judged_wrong _ _) (λ _ _ _. judged_wrong _ _) untyped_right))))))))))

pub six : (l : List ℕ) → answer_number (read_line l) ≡ 6 → answer_column (read_line l) ≡ 0 → ⊥
unfolding read_line
six l =
    picks Six (eqb (length l) 80) _ (Err (Refused Length))
    (λ _. picks Six (clean_at l 0 80) (answer_of (reading_of (kind_of l) l)) (Err (Refused Byte)) (λ _. reading_wrong (kind_of l) l) (λ _ e z. omega arith))
    (λ _ e z. omega arith)
  where
    Six : Answer → Type 0
    Six a = answer_number a ≡ 6 → answer_column a ≡ 0 → ⊥

only_answer : (a : Reading) → (answer_column (answer_of a) ≡ 0 → ⊥) → answer_number (answer_of a) ≡ 6
only_answer (Ok r) z = absurd (z refl)
only_answer (Err (Wrong column)) z = refl
only_answer (Err Untyped) z = absurd (z refl)

pub only_six : (l : List ℕ) → (answer_column (read_line l) ≡ 0 → ⊥) → answer_number (read_line l) ≡ 6
unfolding read_line
only_six l =
    picks Only (eqb (length l) 80) _ (Err (Refused Length))
    (λ _. picks Only (clean_at l 0 80) (answer_of (reading_of (kind_of l) l)) (Err (Refused Byte)) (λ _. only_answer (reading_of (kind_of l) l)) (λ _ z. absurd (z refl)))
    (λ _ z. absurd (z refl))
  where
    Only : Answer → Type 0
    Only a = (answer_column a ≡ 0 → ⊥) → answer_number a ≡ 6

-- ---- THE THEOREM of the column
read_clean : (l : List ℕ) → length l ≡ 80 → clean_at l 0 80 ≡ true → read_line l ≡ answer_of (reading_of (kind_of l) l)
unfolding read_line
read_clean l h c = rw (eq-eqb (length l) 80 h, c)

pub columns : Columns
columns =
    record {
      six = six;
      only_six = only_six;
      side_by_side = λ l h t. (by_kind l h (kind_of l) t).1;
      leftmost = λ l h c t.
          let x = by_kind l h (kind_of l) t in
          let e : answer_column (read_line l) ≡ leftmost_wrong (fields_of (kind_of l) l) = ap answer_column (read_clean l h c) ∙ x.0 in
          subst (λ (n : ℕ). Leftmost (fields_of (kind_of l) l) n) (sym e) (leftmost_of 7 81 (fields_of (kind_of l) l) (omega arith) x.1);
    }
