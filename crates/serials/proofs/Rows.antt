-- What is known of a line whatever its piece is.
-- Assumes nothing.
use Prim.Native.Nat.{ℕ, ◌≤◌}
use mathlib.Core.List.{List}
use mathlib.Core.Bool.{Bool, true, false, false≢true}
use mathlib.Core.Path.{◌≡◌, refl, sym, ◌∙◌, ap}
use native.Mathlib.Omega.{arith}
use lib.Dec.{eqb, ltb}
use lib.ListN.{length, get_or, take}
use borrow.Author.Tests.{ltb-false}
use Rattle.ascii.specs.Tests.{pick, both}
use Rattle.columns.specs.Columns.{clean_at}
use Rattle.fields.specs.Field.{ranged_number}
use Rattle.coordinate.specs.Atoms.{atom_f, atom_columns, identity_columns}
use Rattle.ter.specs.Ters.{ter_f, ter_columns}
use Rattle.kinds.specs.declared.Kind.{Kind}
use Rattle.kinds.specs.declared.Kind.TheVariants.{Header, Title, Compnd, Source, Keywds, Expdta, Author, Revdat, Jrnl, Remark, Seqres, Het, Helix, Sheet, Cryst1, Origx1, Origx2, Origx3, Scale1, Scale2, Scale3, Atom, Hetatm, Ter, Conect, Master, End, Unknown, Model, Endmdl}
use Rattle.kinds.specs.Kinds.{row_of, kind_of}
use Rattle.line.specs.declared.Record.{Record}
use Rattle.line.specs.declared.Record.TheVariants as rec
use Rattle.std.specs.Prelude.{Ok, Err}
use Rattle.line.specs.declared.unread.Unread.TheVariants as unread
use Rattle.line.specs.Lines.{judged, crystal_read, reading_of}
use Rattle.pieces.specs.declared.Line.{Line}
use Rattle.pieces.specs.declared.Line.TheVariants.{Bad, Wrong, Carried, Typed}
use Rattle.pieces.specs.Pieces.{line_in, columns_of, line_of}
use Rattle.places.specs.Places.{coordinate_place, end_place}
use Rattle.places.specs.Counts.{count_of}
use Rattle.rows.specs.Text.{piece_at, row}
use Rattle.facets.specs.Facets.{spot_of, is_spot, is_coord}
use Rattle.serials.specs.Known.{is_atom, is_site}
use Rattle.serials.specs.Search.{spot_serial, serial_of}
use Rattle.refusals.specs.declared.Refusal.TheVariants as refusal
use Rattle.refusals.specs.declared.Refusal.{Refusal}

-- the number in columns 7-11
abbrev serial_in : List ℕ → ℕ
serial_in l = (ranged_number 5 0 1 99999 l 6).value

record Reads (l : List ℕ) (kind : Kind) (x : Line) : Type 0 where
  -- the serial of a coordinate line is the number in its columns 7-11
  serial : is_coord x ≡ true → serial_of x ≡ serial_in l
  -- it is an ATOM or HETATM line with serial n if its kind is counted among the coordinates and that number is n
  site : (n : ℕ) → is_coord x ≡ true → is_site n x ≡ both (eqb (count_of kind) 6) (eqb (serial_in l) n)
  -- a carried line is of another place than the coordinate lines
  away : (k : Kind) → x ≡ Carried k → (row_of k).here ≡ coordinate_place → ⊥
  -- nor of END's
  ends : (k : Kind) → x ≡ Carried k → (row_of k).here ≡ end_place → ⊥

pick_both : (P : Line → Type 0) (b : Bool) (x y : Line) → P x → P y → P (pick b x y)
pick_both P true x y p q = p
pick_both P false x y p q = q

bad : (l : List ℕ) (k : Kind) (n : Refusal) → Reads l k (Bad n)
bad l k n = record { serial = λ e. absurd (false≢true e); site = λ m e. absurd (false≢true e); away = λ k' e. let z : ◌≡◌ {A = ℕ} 0 1 = cc in absurd (omega arith); ends = λ k' e. let z : ◌≡◌ {A = ℕ} 0 1 = cc in absurd (omega arith) }

judged_line : (k : Kind) (c : ℕ) (r : Record) → line_in k (judged c r) ≡ pick (eqb c 0) (Typed r) (Wrong k (record { 0 = c }))
unfolding judged
judged_line k c r = go (eqb c 0)
  where
    go : (b : Bool) → line_in k (pick b (Ok r) (Err (unread.Wrong (record { 0 = c })))) ≡ pick b (Typed r) (Wrong k (record { 0 = c }))
    go true = refl
    go false = refl

typed : (l : List ℕ) (k : Kind) (c : ℕ) (r : Record)
    → (is_spot (spot_of r) ≡ true → spot_serial (spot_of r) ≡ serial_in l) → ((n : ℕ) → is_spot (spot_of r) ≡ true → is_atom n (spot_of r) ≡ both (eqb (count_of k) 6) (eqb (serial_in l) n)) → Reads l k (line_in k (judged c r))
typed l k c r says tells =
    rw (judged_line k c r)
    (pick_both (Reads l k) (eqb c 0) (Typed r) (Wrong k (record { 0 = c }))
    (record { serial = says; site = tells; away = λ k' e. let z : ◌≡◌ {A = ℕ} 0 1 = cc in absurd (omega arith); ends = λ k' e. let z : ◌≡◌ {A = ℕ} 0 1 = cc in absurd (omega arith) })
    (record { serial = λ e. absurd (false≢true e); site = λ m e. absurd (false≢true e); away = λ k' e. let z : ◌≡◌ {A = ℕ} 0 1 = cc in absurd (omega arith); ends = λ k' e. let z : ◌≡◌ {A = ℕ} 0 1 = cc in absurd (omega arith) }))

-- a typed line of another kind
other : (l : List ℕ) (k : Kind) (c : ℕ) (r : Record) → is_spot (spot_of r) ≡ false → Reads l k (line_in k (judged c r))
other l k c r o = typed l k c r (λ e. absurd (false≢true (sym o ∙ e))) (λ n e. absurd (false≢true (sym o ∙ e)))

carried : (l : List ℕ) (k : Kind) → ((row_of k).here ≡ coordinate_place → ⊥) → ((row_of k).here ≡ end_place → ⊥) → Reads l k (Carried k)
carried l k far late = record { serial = λ e. absurd (false≢true e); site = λ m e. absurd (false≢true e); away = λ k' e h. let q : k ≡ k' = cc in far (rw q h); ends = λ k' e h. let q : k ≡ k' = cc in late (rw q h) }

by_kind : (l : List ℕ) (k : Kind) → Reads l k (line_in k (reading_of k l))
unfolding reading_of crystal_read atom_columns identity_columns ter_columns both
by_kind l Header = carried l Header (λ h. omega arith) (λ h. omega arith)
by_kind l Title = carried l Title (λ h. omega arith) (λ h. omega arith)
by_kind l Compnd = carried l Compnd (λ h. omega arith) (λ h. omega arith)
by_kind l Source = carried l Source (λ h. omega arith) (λ h. omega arith)
by_kind l Keywds = carried l Keywds (λ h. omega arith) (λ h. omega arith)
by_kind l Expdta = carried l Expdta (λ h. omega arith) (λ h. omega arith)
by_kind l Author = carried l Author (λ h. omega arith) (λ h. omega arith)
by_kind l Revdat = carried l Revdat (λ h. omega arith) (λ h. omega arith)
by_kind l Jrnl = carried l Jrnl (λ h. omega arith) (λ h. omega arith)
by_kind l Remark = carried l Remark (λ h. omega arith) (λ h. omega arith)
by_kind l Seqres = carried l Seqres (λ h. omega arith) (λ h. omega arith)
by_kind l Het = carried l Het (λ h. omega arith) (λ h. omega arith)
by_kind l Helix = other l Helix _ _ refl
by_kind l Sheet = other l Sheet _ _ refl
by_kind l Cryst1 = other l Cryst1 _ _ refl
by_kind l Origx1 = other l Origx1 _ _ refl
by_kind l Origx2 = other l Origx2 _ _ refl
by_kind l Origx3 = other l Origx3 _ _ refl
by_kind l Scale1 = other l Scale1 _ _ refl
by_kind l Scale2 = other l Scale2 _ _ refl
by_kind l Scale3 = other l Scale3 _ _ refl
by_kind l Atom = typed l Atom (atom_f.fault l 6) (rec.Coordinate false (atom_f.value l 6)) (λ e. refl) (λ n e. refl)
by_kind l Hetatm = typed l Hetatm (atom_f.fault l 6) (rec.Coordinate true (atom_f.value l 6)) (λ e. refl) (λ n e. refl)
by_kind l Ter = typed l Ter (ter_f.fault l 6) (rec.Ter (ter_f.value l 6)) (λ e. refl) (λ n e. refl)
by_kind l Conect = other l Conect _ _ refl
by_kind l Master = other l Master _ _ refl
by_kind l End = other l End _ _ refl
by_kind l Unknown = bad l Unknown refusal.Name
by_kind l Model = other l Model _ _ refl
by_kind l Endmdl = other l Endmdl _ _ refl

of_piece : (p : List ℕ) → Reads (take 80 p) (kind_of (take 80 p)) (line_of p)
unfolding line_of columns_of
of_piece p =
    let P : Line → Type 0 = Reads (take 80 p) (kind_of (take 80 p)) in
    pick_both P (ltb (length p) 81) (Bad refusal.Length) _ (bad _ _ refusal.Length)
    (pick_both P (eqb (get_or p 80 0) 10) _ (Bad refusal.LineEnd)
    (pick_both P (clean_at (take 80 p) 0 80) _ (Bad refusal.Byte) (by_kind (take 80 p) (kind_of (take 80 p))) (bad _ _ refusal.Byte)) (bad _ _ refusal.LineEnd))

pub piece_serial : (p : List ℕ) → is_coord (line_of p) ≡ true → serial_of (line_of p) ≡ (ranged_number 5 0 1 99999 (take 80 p) 6).value
piece_serial p e = (of_piece p).serial e

pub coord_serial : (t : List ℕ) (j : ℕ) → is_coord (row t j) ≡ true → serial_of (row t j) ≡ (ranged_number 5 0 1 99999 (take 80 (piece_at t j)) 6).value
unfolding row
coord_serial t j e = piece_serial (piece_at t j) e

-- what is read of a coordinate line, put together
pub site_told : (p : List ℕ) (x : ℕ) (k : Kind) (n v : ℕ) (r : Bool) → k ≡ kind_of (take 80 p) → n ≡ count_of k
    → v ≡ (ranged_number 5 0 1 99999 (take 80 p) 6).value → r ≡ both (eqb n 6) (eqb v x) → is_coord (line_of p) ≡ true → r ≡ is_site x (line_of p)
site_told p x k n v r ek en ev er e = rw (er, en, ek, ev) (sym ((of_piece p).site x e))

-- the piece with an index is that line
pub piece_row : (t : List ℕ) (i : ℕ) (p : List ℕ) → p ≡ piece_at t i → line_of p ≡ row t i
unfolding row
piece_row t i p e = ap line_of e

pub carried_away : (t : List ℕ) (j : ℕ) (k : Kind) → row t j ≡ Carried k → (row_of k).here ≡ coordinate_place → ⊥
unfolding row
carried_away t j k e = (of_piece (piece_at t j)).away k e

pub carried_ends : (t : List ℕ) (j : ℕ) (k : Kind) → row t j ≡ Carried k → (row_of k).here ≡ end_place → ⊥
unfolding row
carried_ends t j k e = (of_piece (piece_at t j)).ends k e

-- a piece that is not refused with 1 is 81 bytes long
pub piece_long : (p : List ℕ) → (line_of p ≡ Bad refusal.Length → ⊥) → 81 ≤ length p
unfolding line_of
piece_long p h = go (ltb (length p) 81) refl h
  where
    go : (b : Bool) → ltb (length p) 81 ≡ b → (pick b (Bad refusal.Length) (pick (eqb (get_or p 80 0) 10) (columns_of (take 80 p)) (Bad refusal.LineEnd)) ≡ Bad refusal.Length → ⊥) → 81 ≤ length p
    go true t f = absurd (f refl)
    go false t f = ltb-false (length p) 81 t
