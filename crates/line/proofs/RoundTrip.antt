-- The two round trips, over all typed kinds.
-- Assumes nothing.
use mathlib.Core.Path.{◌≡◌, refl, sym, ◌∙◌}
use mathlib.Core.List.{List, ◌++◌}
use mathlib.Core.Bool.{Bool, true, false}
use Prim.Native.Nat.{ℕ, ◌≤◌}
use native.Mathlib.Omega.{arith}
use lib.Dec.{T, eqb}
use lib.ListN.{length, take, drop}
use borrow.Author.Tests.{eqb-true, le-ltb}
use Rattle.ascii.proofs.Choice.{picks}
use Rattle.ascii.proofs.Clean.{printed}
use Rattle.columns.specs.Columns.{clean_at}
use Rattle.columns.proofs.Spans.{clean_cols, clean_fewer}
use Rattle.fields.specs.Format.{Format, write_number, write_line}
use Rattle.fields.proofs.Formats.{Lawful, none_lawful, after_lawful, line_kept, line_back, line_clean, line_long}
use Rattle.kinds.specs.declared.Kind.{Kind}
use Rattle.kinds.specs.declared.Kind.TheVariants.{Cryst1, Atom, Hetatm, Ter, Helix, Sheet, Conect, Master, End, Model, Endmdl}
use Rattle.kinds.specs.Kinds.{row_of, name_text, is, is_named, kind_of}
use Rattle.kinds.proofs.First.{name_first, kind_first, same_name}
use Rattle.coordinate.specs.Atoms.{atom_f}
use Rattle.coordinate.proofs.Laws.{atom_lawful}
use Rattle.ter.specs.Ters.{ter_f}
use Rattle.ter.proofs.Laws.{ter_lawful}
use Rattle.helix.specs.Helices.{helix_f}
use Rattle.helix.proofs.Laws.{helix_lawful}
use Rattle.sheet.specs.Sheets.{sheet_f}
use Rattle.sheet.proofs.Laws.{sheet_lawful}
use Rattle.conect.specs.Conects.{conect_f}
use Rattle.conect.proofs.Laws.{conect_lawful}
use Rattle.master.specs.Masters.{master_f}
use Rattle.master.proofs.Laws.{master_lawful}
use Rattle.model.specs.Models.{model_f}
use Rattle.model.proofs.Laws.{model_lawful}
use Rattle.cell.specs.Cells.{cell_f}
use Rattle.cell.proofs.Laws.{cell_lawful}
use Rattle.transform.specs.declared.Axis.{Axis}
use Rattle.transform.specs.declared.Axis.TheVariants.{X, Y, Z}
use Rattle.transform.specs.Transforms.{transform_f, transform_kind}
use Rattle.transform.proofs.Laws.{transform_lawful}
use Rattle.line.specs.declared.Record.{Record}
use Rattle.line.specs.declared.Record.TheVariants as rec
use Rattle.std.specs.Prelude.{Ok, Err}
use Rattle.refusals.specs.declared.Refusal.{Refusal}
use Rattle.refusals.specs.declared.Refusal.TheVariants.{Length, Byte}
use Rattle.line.specs.declared.unread.Unread.TheVariants.{Wrong, Untyped}
use Rattle.line.specs.declared.unread.Misread.TheVariants.{Refused}
use Rattle.line.specs.Lines.{Reading, Answer, bare_f, judged, crystal_read, reading_of, answer_of, read_line, answer_number, record_ok, record_line}
use Rattle.line.specs.Promise.{RoundTrips}
use Rattle.line.proofs.Crystal.{crystal_cases, transform_name, transform_named, transform_printed}

pub bare_lawful : Lawful bare_f 6
bare_lawful = after_lawful 74 none_lawful

-- ---- what reads is what would be written
abbrev Kept : List ℕ → Reading → Type 0
Kept l x = (r : Record) → x ≡ Ok r → (record_line r ≡ l) × (record_ok r ≡ true)

kept_untyped : (l : List ℕ) → Kept l (Err Untyped)
kept_untyped l r e = let z : ◌≡◌ {A = ℕ} 0 1 = cc in absurd (omega arith)

-- a kind with its lawful format, whose values are wrapped into records
kept_judged : {A : Type 0} (F : Format A) → Lawful F 6 → F.width ≡ 74 → (k : Kind) → length (name_text k) ≡ 6 → (wrap : A → Record)
    → ((a : A) → record_line (wrap a) ≡ name_text k ++ F.text a) → ((a : A) → record_ok (wrap a) ≡ F.ok a)
    → (l : List ℕ) → length l ≡ 80 → take 6 l ≡ name_text k → Kept l (judged (F.fault l 6) (wrap (F.value l 6)))
unfolding judged
kept_judged F f w k n wrap line ok l h first =
    picks (Kept l) (eqb (F.fault l 6) 0) (Ok (wrap (F.value l 6))) (Err (Wrong (record { 0 = F.fault l 6 })))
    (λ t r e.
    let q : wrap (F.value l 6) ≡ r = cc in
    let x = line_kept F f w (name_text k) n l h first (eqb-true (F.fault l 6) 0 t) in
    rw (← q) (line (F.value l 6) ∙ x.0, ok (F.value l 6) ∙ x.1))
    (λ _ r e. let z : ◌≡◌ {A = ℕ} 0 1 = cc in absurd (omega arith))

kept_reading : (l : List ℕ) → length l ≡ 80 → clean_at l 0 80 ≡ true → (k : Kind) → kind_of l ≡ k → Kept l (reading_of k l)
unfolding reading_of
kept_reading l h c k e =
    picks (Kept l) (is Atom k) _ _ (λ t. kept_judged atom_f atom_lawful refl Atom refl (rec.Coordinate false) (λ a. refl) (λ a. refl) l h (first Atom refl t))
    (λ _. picks (Kept l) (is Hetatm k) _ _ (λ t. kept_judged atom_f atom_lawful refl Hetatm refl (rec.Coordinate true) (λ a. refl) (λ a. refl) l h (first Hetatm refl t))
    (λ _. picks (Kept l) (is Ter k) _ _ (λ t. kept_judged ter_f ter_lawful refl Ter refl rec.Ter (λ a. refl) (λ a. refl) l h (first Ter refl t))
    (λ _. picks (Kept l) (is Helix k) _ _ (λ t. kept_judged helix_f helix_lawful refl Helix refl rec.Helix (λ a. refl) (λ a. refl) l h (first Helix refl t))
    (λ _. picks (Kept l) (is Sheet k) _ _ (λ t. kept_judged sheet_f sheet_lawful refl Sheet refl rec.Sheet (λ a. refl) (λ a. refl) l h (first Sheet refl t))
    (λ _. picks (Kept l) (is Conect k) _ _ (λ t. kept_judged conect_f conect_lawful refl Conect refl rec.Conect (λ a. refl) (λ a. refl) l h (first Conect refl t))
    (λ _. picks (Kept l) (is Master k) _ _ (λ t. kept_judged master_f master_lawful refl Master refl rec.Master (λ a. refl) (λ a. refl) l h (first Master refl t))
    (λ _. picks (Kept l) (is End k) _ _ (λ t. kept_judged bare_f bare_lawful refl End refl (λ a. rec.End) (λ a. refl) (λ a. refl) l h (first End refl t))
    (λ _. picks (Kept l) (is Model k) _ _ (λ t. kept_judged model_f model_lawful refl Model refl rec.Model (λ a. refl) (λ a. refl) l h (first Model refl t))
    (λ _. picks (Kept l) (is Endmdl k) _ _ (λ t. kept_judged bare_f bare_lawful refl Endmdl refl (λ a. rec.Endmdl) (λ a. refl) (λ a. refl) l h (first Endmdl refl t))
    (λ _. crystal_cases (Kept l) k l
    (λ t. kept_judged cell_f cell_lawful refl Cryst1 refl rec.Cell (λ a. refl) (λ a. refl) l h (first Cryst1 refl t))
    (λ s x t. kept_judged transform_f transform_lawful refl (transform_kind s x) (transform_name s x) (rec.Transform s x) (λ a. refl) (λ a. refl) l h (first (transform_kind s x) (transform_named s x) t))
    (kept_untyped l)))))))))))
  where
    first : (a : Kind) → is_named a ≡ true → is a k ≡ true → take 6 l ≡ name_text a
    first a known t =
        name_first l (omega arith) (clean_fewer l 0 6 80 (omega arith) c) a (e ∙ sym (same_name a k (eqb-true (row_of a).name (row_of k).name t))) known

kept_answer : (l : List ℕ) (x : Reading) → Kept l x → (r : Record) → answer_of x ≡ Ok r → (record_line r ≡ l) × (record_ok r ≡ true)
kept_answer l (Ok y) f r e = f r (cc)
kept_answer l (Err (Wrong n)) f r e = let z : ◌≡◌ {A = ℕ} 0 1 = cc in absurd (omega arith)
kept_answer l (Err Untyped) f r e = let z : ◌≡◌ {A = ℕ} 0 1 = cc in absurd (omega arith)

-- THE FIRST ROUND TRIP: a line that reads to a record is the line that the record is written as, and the record is within its ranges
pub kept : (l : List ℕ) (r : Record) → read_line l ≡ Ok r → (record_line r ≡ l) × (record_ok r ≡ true)
unfolding read_line
kept l =
    picks Granted (eqb (length l) 80) _ (Err (Refused Length))
    (λ t.
    let h = eqb-true (length l) 80 t in
    picks Granted (clean_at l 0 80) (answer_of (reading_of (kind_of l) l)) (Err (Refused Byte))
    (λ c. kept_answer l (reading_of (kind_of l) l) (kept_reading l h c (kind_of l) refl)) (λ _. refused Byte))
    (λ _. refused Length)
  where
    Granted : Answer → Type 0
    Granted a = (r : Record) → a ≡ Ok r → (record_line r ≡ l) × (record_ok r ≡ true)

    refused : (n : Refusal) → Granted (Err (Refused n))
    refused n r e = let z : ◌≡◌ {A = ℕ} 0 1 = cc in absurd (omega arith)

-- no refusal has the number 0
granted : (l : List ℕ) → answer_number (read_line l) ≡ 0 → (r : Record) × (read_line l ≡ Ok r)
unfolding read_line
granted l =
    picks Reads (eqb (length l) 80) _ (Err (Refused Length))
    (λ _. picks Reads (clean_at l 0 80) (answer_of (reading_of (kind_of l) l)) (Err (Refused Byte)) (λ _. typed (reading_of (kind_of l) l)) (λ _ e. absurd (omega arith)))
    (λ _ e. absurd (omega arith))
  where
    Reads : Answer → Type 0
    Reads a = answer_number a ≡ 0 → (r : Record) × (a ≡ Ok r)

    typed : (x : Reading) → Reads (answer_of x)
    typed (Ok r) e = (r, refl)
    typed (Err (Wrong column)) e = absurd (omega arith)
    typed (Err Untyped) e = absurd (omega arith)

-- ---- what is written reads back
back_judged : {A : Type 0} (F : Format A) → Lawful F 6 → F.width ≡ 74 → (k : Kind) → length (name_text k) ≡ 6 → T (printed (name_text k)) → (wrap : A → Record)
    → ((l : List ℕ) → reading_of k l ≡ judged (F.fault l 6) (wrap (F.value l 6)))
    → (a : A) → F.ok a ≡ true → read_line (name_text k ++ F.text a) ≡ Ok (wrap a)
unfolding read_line judged
back_judged F f w k n p wrap reads a ok =
    let l : List ℕ = name_text k ++ F.text a in
    let long = line_long F f w (name_text k) n a in
    let x = line_back F f w (name_text k) n a ok in
    rw (long, clean_cols l (line_clean F f w (name_text k) n p a ok) 0 80 (omega arith), kind_first (F.text a) k, reads l, x.0, x.1)

transform_reads : (s : Bool) (x : Axis) (l : List ℕ) → reading_of (transform_kind s x) l ≡ judged (transform_f.fault l 6) (rec.Transform s x (transform_f.value l 6))
unfolding reading_of crystal_read
transform_reads false X l = refl
transform_reads false Y l = refl
transform_reads false Z l = refl
transform_reads true X l = refl
transform_reads true Y l = refl
transform_reads true Z l = refl

-- THE SECOND ROUND TRIP: a record within its ranges reads back from the line that it is written as
pub back : (r : Record) → record_ok r ≡ true → read_line (record_line r) ≡ Ok r
unfolding reading_of crystal_read
back (rec.Coordinate true a) ok = back_judged atom_f atom_lawful refl Hetatm refl tt (rec.Coordinate true) (λ l. refl) a ok
back (rec.Coordinate false a) ok = back_judged atom_f atom_lawful refl Atom refl tt (rec.Coordinate false) (λ l. refl) a ok
back (rec.Ter t) ok = back_judged ter_f ter_lawful refl Ter refl tt rec.Ter (λ l. refl) t ok
back (rec.Helix h) ok = back_judged helix_f helix_lawful refl Helix refl tt rec.Helix (λ l. refl) h ok
back (rec.Sheet s) ok = back_judged sheet_f sheet_lawful refl Sheet refl tt rec.Sheet (λ l. refl) s ok
back (rec.Conect c) ok = back_judged conect_f conect_lawful refl Conect refl tt rec.Conect (λ l. refl) c ok
back (rec.Master t) ok = back_judged master_f master_lawful refl Master refl tt rec.Master (λ l. refl) t ok
back rec.End ok = back_judged bare_f bare_lawful refl End refl tt (λ a. rec.End) (λ l. refl) tt ok
back (rec.Model m) ok = back_judged model_f model_lawful refl Model refl tt rec.Model (λ l. refl) m ok
back (rec.Cell c) ok = back_judged cell_f cell_lawful refl Cryst1 refl tt rec.Cell (λ l. refl) c ok
back (rec.Transform s x t) ok = back_judged transform_f transform_lawful refl (transform_kind s x) (transform_name s x) (transform_printed s x) (rec.Transform s x) (transform_reads s x) t ok
back rec.Endmdl ok = back_judged bare_f bare_lawful refl Endmdl refl tt (λ a. rec.Endmdl) (λ l. refl) tt ok

-- ---- both, of what the functions promise
-- a line that was read, written into a buffer with room, stands there byte for byte, and what lies behind it is as found
pub rewritten : (l out : List ℕ) (r : Record) → read_line l ≡ Ok r → 80 ≤ length out
    → (write_number (record_ok r) out ≡ 0) × (write_line (record_ok r) (record_line r) out ≡ l ++ drop 80 out)
unfolding write_number write_line
rewritten l out r e h = let x = kept l r e in rw (x.0, x.1, le-ltb _ _ h) (refl, refl)

pub round_trips : RoundTrips
round_trips = record { granted = granted; kept = kept; back = back; rewritten = rewritten }
