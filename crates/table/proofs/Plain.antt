-- What is known of a line whatever its piece is: MASTER's columns hold its counts, and a carried line stands before the coordinate lines.
-- Assumes nothing.
use Rattle.std.proofs.Common.{Option, Some, None}
use Prim.Native.Nat.{ℕ, ◌≤◌, ◌<◌}
use mathlib.Core.List.{List}
use mathlib.Core.Bool.{Bool, true, false}
use mathlib.Core.Path.{◌≡◌}
use mathlib.Core.Logic.{inl, inr}
use native.Mathlib.Omega.{arith}
use borrow.Author.Tests.{eqb-true, leb-true, le-leb, ltb-false}
use lib.Dec.{eqb, ltb, leb}
use lib.ListN.{length, get_or, take, length-take}
use Rattle.facets.specs.declared.Fence.{Fence}
use Rattle.facets.specs.declared.Fence.TheVariants.{Opens, Shuts}
use Rattle.facets.specs.Facets.{total_of, fence_of, fence_in}
use Rattle.numbers.specs.Number.{number_of}
use Rattle.model.specs.Models.{model_f, model_columns}
use Rattle.slots.proofs.Returns.{whole_high}
use Rattle.ascii.specs.Tests.{both}
use Rattle.ascii.proofs.Choice.{picks, both_split, both_join}
use Rattle.columns.specs.Columns.{clean_at}
use Rattle.fields.specs.Field.{ranged_of}
use Rattle.kinds.specs.declared.Kind.{Kind}
use Rattle.transform.specs.declared.Axis.{Axis}
use Rattle.transform.specs.Transforms.{transform_kind}
use Rattle.line.proofs.Crystal.{crystal_cases, each_transform}
use Rattle.kinds.specs.declared.Kind.TheVariants.{Header, Title, Compnd, Source, Keywds, Expdta, Author, Revdat, Jrnl, Remark, Seqres, Het, Helix, Sheet, Cryst1, Origx1, Origx2, Origx3, Scale1, Scale2, Scale3, Atom, Hetatm, Ter, Conect, Master, End, Unknown, Model, Endmdl}
use Rattle.kinds.specs.Kinds.{row_of, is, is_named, kind_of}
use Rattle.line.specs.declared.Record.{Record}
use Rattle.line.specs.declared.Record.TheVariants as rec
use Rattle.std.specs.Prelude.{Ok, Err}
use Rattle.line.specs.declared.unread.Unread.TheVariants as unread
use Rattle.line.specs.Lines.{Reading, judged, crystal_read, reading_of}
use Rattle.master.specs.declared.Tally.{Tally}
use Rattle.master.specs.Masters.{master_f, master_columns, notes_columns, shape_columns, atoms_columns}
use Rattle.master.proofs.Laws.{master_lawful}
use Rattle.pieces.specs.declared.Line.{Line}
use Rattle.pieces.specs.declared.Line.TheVariants.{Bad, Wrong, Carried, Typed}
use Rattle.pieces.specs.Pieces.{line_in, columns_of, line_of}
use Rattle.places.specs.Places.{place_bad, coordinate_place, end_place}
use Rattle.places.proofs.Laws.{place_low, place_high}
use Rattle.serials.specs.Search.{Before}
use Rattle.table.specs.FiveDigits.{FiveDigits}
use Rattle.refusals.specs.declared.Refusal.TheVariants as refusal

ranged_top : (v : ℕ) → ranged_of 0 99999 v ≡ true → v ≤ 99999
unfolding ranged_of
ranged_top v e = leb-true v 99999 (both_split (leb 0 v) (leb v 99999) e).1

top_ranged : (v : ℕ) → v ≤ 99999 → ranged_of 0 99999 v ≡ true
unfolding ranged_of
top_ranged v h = both_join (leb 0 v) (leb v 99999) (le-leb 0 v (omega arith)) (le-leb v 99999 h)

-- MASTER is within its ranges exactly if its columns hold its counts
pub ok_small : (t : Tally) → master_f.ok t ≡ true → FiveDigits t
unfolding master_columns notes_columns shape_columns atoms_columns
ok_small t e =
    let a = both_split _ _ e in
    let b = both_split _ _ a.1 in
    let c = both_split _ _ b.1 in
    let n = both_split _ _ a.0 in
    let n2 = both_split _ _ (both_split _ _ n.1).1 in
    let s = both_split _ _ b.0 in
    let s2 = both_split _ _ (both_split _ _ s.1).1 in
    let m = both_split _ _ c.0 in
    let m2 = both_split _ _ m.1 in
    let m3 = both_split _ _ m2.1 in
    record {
      remark = ranged_top _ n.0;
      het = ranged_top _ n2.0;
      helix = ranged_top _ n2.1;
      sheet = ranged_top _ s.0;
      xform = ranged_top _ s2.1;
      coord = ranged_top _ m.0;
      ter = ranged_top _ m2.0;
      conect = ranged_top _ m3.0;
      seq = ranged_top _ m3.1;
    }

pub small_ok : (t : Tally) → FiveDigits t → master_f.ok t ≡ true
unfolding master_columns notes_columns shape_columns atoms_columns both
small_ok t s =
    rw (top_ranged t.remark s.remark, top_ranged t.het s.het, top_ranged t.helix s.helix, top_ranged t.sheet s.sheet, top_ranged t.xform s.xform, top_ranged t.coord s.coord, top_ranged t.ter s.ter, top_ranged t.conect s.conect, top_ranged t.seq s.seq)

-- a kind that stands before the coordinate lines
pub record Front (k : Kind) : Type 0 where
  pub after : (p : ℕ) → place_bad p k ≡ false → Before p
  pub here : Before (row_of k).here

low_front : (k : Kind) → (row_of k).high < coordinate_place → Before (row_of k).here → Front k
low_front k h b = record { after = λ p e. inl (omega (arith, place_high p k e)); here = b }

high_front : (k : Kind) → end_place < (row_of k).low → Before (row_of k).here → Front k
high_front k h b = record { after = λ p e. inr (omega (arith, place_low p k e)); here = b }

pub cell_front : Front Cryst1
cell_front = low_front Cryst1 (omega arith) (inl (omega arith))

pub transform_front : (scale : Bool) (axis : Axis) → Front (transform_kind scale axis)
transform_front =
    each_transform Front
    (low_front Origx1 (omega arith) (inr (omega arith))) (high_front Origx2 (omega arith) (inr (omega arith))) (high_front Origx3 (omega arith) (inl (omega arith)))
    (low_front Scale1 (omega arith) (inr (omega arith))) (high_front Scale2 (omega arith) (inr (omega arith))) (high_front Scale3 (omega arith) (inl (omega arith)))

abbrev pub PlainTotal : Option Tally → Type 0
PlainTotal (Some t) = FiveDigits t
PlainTotal None = Unit {0}

abbrev pub Plain : Line → Type 0
Plain (Bad n) = Unit {0}
Plain (Wrong k column) = Unit {0}
Plain (Carried k) = Front k
Plain (Typed r) = PlainTotal (total_of r)

judged_plain : (k : Kind) (c : ℕ) (r : Record) → (c ≡ 0 → PlainTotal (total_of r)) → Plain (line_in k (judged c r))
unfolding judged
judged_plain k c r f =
    picks (λ (x : Reading). Plain (line_in k x)) (eqb c 0) (Ok r) (Err (unread.Wrong (record { 0 = c }))) (λ t. f (eqb-true c 0 t)) (λ _. tt)

by_kind : (l : List ℕ) → 80 ≤ length l → (k : Kind) → Plain (line_in k (reading_of k l))
unfolding reading_of crystal_read
by_kind l h Header = low_front Header (omega arith) (inl (omega arith))
by_kind l h Title = low_front Title (omega arith) (inl (omega arith))
by_kind l h Compnd = low_front Compnd (omega arith) (inl (omega arith))
by_kind l h Source = low_front Source (omega arith) (inl (omega arith))
by_kind l h Keywds = low_front Keywds (omega arith) (inl (omega arith))
by_kind l h Expdta = low_front Expdta (omega arith) (inl (omega arith))
by_kind l h Author = low_front Author (omega arith) (inl (omega arith))
by_kind l h Revdat = low_front Revdat (omega arith) (inl (omega arith))
by_kind l h Jrnl = low_front Jrnl (omega arith) (inl (omega arith))
by_kind l h Remark = low_front Remark (omega arith) (inl (omega arith))
by_kind l h Seqres = low_front Seqres (omega arith) (inl (omega arith))
by_kind l h Het = low_front Het (omega arith) (inl (omega arith))
by_kind l h Helix = judged_plain Helix _ _ (λ _. tt)
by_kind l h Sheet = judged_plain Sheet _ _ (λ _. tt)
by_kind l h Cryst1 = judged_plain Cryst1 _ _ (λ _. tt)
by_kind l h Origx1 = judged_plain Origx1 _ _ (λ _. tt)
by_kind l h Origx2 = judged_plain Origx2 _ _ (λ _. tt)
by_kind l h Origx3 = judged_plain Origx3 _ _ (λ _. tt)
by_kind l h Scale1 = judged_plain Scale1 _ _ (λ _. tt)
by_kind l h Scale2 = judged_plain Scale2 _ _ (λ _. tt)
by_kind l h Scale3 = judged_plain Scale3 _ _ (λ _. tt)
by_kind l h Atom = judged_plain Atom _ _ (λ _. tt)
by_kind l h Hetatm = judged_plain Hetatm _ _ (λ _. tt)
by_kind l h Ter = judged_plain Ter _ _ (λ _. tt)
by_kind l h Conect = judged_plain Conect _ _ (λ _. tt)
by_kind l h Master = judged_plain Master (master_f.fault l 6) (rec.Master (master_f.value l 6)) (λ e. ok_small (master_f.value l 6) (master_lawful.kept l 6 (omega arith) e).1)
by_kind l h End = judged_plain End _ _ (λ _. tt)
by_kind l h Unknown = tt
by_kind l h Model = judged_plain Model _ _ (λ _. tt)
by_kind l h Endmdl = judged_plain Endmdl _ _ (λ _. tt)

pub piece_plain : (p : List ℕ) → Plain (line_of p)
unfolding line_of columns_of
piece_plain p =
    picks Plain (ltb (length p) 81) (Bad refusal.Length) _ (λ _. tt)
    (λ long.
    let h : 80 ≤ length (take 80 p) = omega (arith, length-take 80 p, ltb-false (length p) 81 long) in
    picks Plain (eqb (get_or p 80 0) 10) _ (Bad refusal.LineEnd)
    (λ _. picks Plain (clean_at (take 80 p) 0 80) _ (Bad refusal.Byte) (λ _. by_kind (take 80 p) h (kind_of (take 80 p))) (λ _. tt)) (λ _. tt))

-- ---- the number of a MODEL line is one that four columns hold
abbrev SmallFence : Option Fence → Type 0
SmallFence (Some (Opens n)) = n ≤ 9999
SmallFence (Some Shuts) = Unit {0}
SmallFence None = Unit {0}

abbrev pub PlainFence : Line → Type 0
PlainFence l = SmallFence (fence_in l)

judged_fence : (k : Kind) (c : ℕ) (r : Record) → SmallFence (fence_of r) → PlainFence (line_in k (judged c r))
unfolding judged
judged_fence k c r s = picks (λ (x : Reading). PlainFence (line_in k x)) (eqb c 0) (Ok r) (Err (unread.Wrong (record { 0 = c }))) (λ _. s) (λ _. tt)

model_small : (l : List ℕ) → (model_f.value l 6).number ≤ 9999
unfolding model_columns
model_small l = whole_high 1 9999 (number_of l 10 4 0) 10

fence_kind : (l : List ℕ) (k : Kind) → PlainFence (line_in k (reading_of k l))
unfolding reading_of
fence_kind l k =
    picks P (is Atom k) _ _ (λ _. judged_fence k _ _ tt)
    (λ _. picks P (is Hetatm k) _ _ (λ _. judged_fence k _ _ tt)
    (λ _. picks P (is Ter k) _ _ (λ _. judged_fence k _ _ tt)
    (λ _. picks P (is Helix k) _ _ (λ _. judged_fence k _ _ tt)
    (λ _. picks P (is Sheet k) _ _ (λ _. judged_fence k _ _ tt)
    (λ _. picks P (is Conect k) _ _ (λ _. judged_fence k _ _ tt)
    (λ _. picks P (is Master k) _ _ (λ _. judged_fence k _ _ tt)
    (λ _. picks P (is End k) _ _ (λ _. judged_fence k _ _ tt)
    (λ _. picks P (is Model k) _ _ (λ _. judged_fence k (model_f.fault l 6) (rec.Model (model_f.value l 6)) (model_small l))
    (λ _. picks P (is Endmdl k) _ _ (λ _. judged_fence k _ _ tt)
    (λ _. crystal_cases P k l (λ _. judged_fence k _ _ tt) (λ _ _ _. judged_fence k _ _ tt)
    (picks PlainFence (is_named k) (Carried k) (Bad refusal.Name) (λ _. tt) (λ _. tt))))))))))))
  where
    P : Reading → Type 0
    P x = PlainFence (line_in k x)

pub piece_model : (p : List ℕ) → PlainFence (line_of p)
unfolding line_of columns_of
piece_model p =
    picks PlainFence (ltb (length p) 81) (Bad refusal.Length) _ (λ _. tt)
    (λ _. picks PlainFence (eqb (get_or p 80 0) 10) _ (Bad refusal.LineEnd)
    (λ _. picks PlainFence (clean_at (take 80 p) 0 80) _ (Bad refusal.Byte) (λ _. fence_kind (take 80 p) (kind_of (take 80 p))) (λ _. tt)) (λ _. tt))
