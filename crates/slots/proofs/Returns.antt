-- One law for each `return`. Assumes nothing.
use Rattle.std.proofs.Common.{Option, Some}
use mathlib.Core.Path.{◌≡◌, sym, ◌∙◌, ap}
use mathlib.Core.List.{List}
use mathlib.Core.Bool.{Bool, true, false}
use Prim.Native.Nat.{ℕ, ◌^◌, ◌≤◌}
use native.Mathlib.Omega.{arith}
use lib.Dec.{eqb, ltb}
use lib.ListN.{length, get_or, take}
use lib.IntN.{ℤ, pos}
use mir.Syntax.{w32}
use mir.Val.{SFits, to_z, of_z}
use mir.ValLaws.{to_z-of_z}
use borrow.Author.Tests.{lt-ltb, eq-eqb, ne_eqb, ltb-false}
use Rattle.ascii.specs.Tests.{pick}
use Rattle.ascii.proofs.Choice.{picks}
use Rattle.columns.specs.Columns.{clean_at}
use Rattle.numbers.specs.declared.Number.{Number}
use Rattle.numbers.specs.Number.{number_of}
use Rattle.fields.specs.Field.{Whole}
use Rattle.fields.specs.Field.{whole_in}
use Rattle.coordinate.specs.declared.Atom.{Atom}
use Rattle.coordinate.specs.Atoms.{atom_f, atom_columns, measure_columns}
use Rattle.kinds.specs.declared.Kind.{Kind}
use Rattle.line.proofs.Crystal.{crystal_cases}
use Rattle.kinds.specs.declared.Kind.TheVariants.{Atom as AtomKind, Hetatm, Ter, Helix, Sheet, Conect, Master, End, Model, Endmdl}
use Rattle.kinds.specs.Kinds.{is, is_named, kind_of}
use Rattle.line.specs.declared.Record.{Record}
use Rattle.line.specs.declared.Record.TheVariants as rec
use Rattle.line.specs.declared.unread.Unread.TheVariants.{Wrong, Untyped}
use Rattle.line.specs.Lines.{Reading, judged, reading_of}
use Rattle.pieces.specs.declared.Line.{Line}
use Rattle.pieces.specs.declared.Line.TheVariants as line
use Rattle.pieces.specs.Pieces.{line_in, columns_of, line_of}
use Rattle.slots.specs.declared.Slot.{Slot}
use Rattle.facets.specs.declared.Spot.{Spot}
use Rattle.facets.specs.declared.Spot.TheVariants.{Site}
use Rattle.facets.specs.Facets.{spot_of, spot_in}
use Rattle.std.specs.Prelude.{Result, Err, Ok}
use Rattle.slots.specs.Slots.{atom_kind, hetatm_kind, slot_of_atom, SmallSpot, spot_read, has_slot, fill_in, slot_line}
use Rattle.refusals.specs.declared.Refusal.TheVariants as refusal

-- a number that was held is itself
abbrev held : ℤ → ℤ
held z = to_z w32 (of_z w32 z)

-- ---- a number with a range is within it, so an occupancy is small
pub whole_high : (lo hi : ℕ) (h : Number) (at : ℕ) → (whole_in lo hi h at).value ≤ hi
unfolding whole_in
whole_high lo hi h at =
    picks P h.good _ _
    (λ _. picks P h.minus _ _ (λ _. omega arith)
    (λ _. picks P (ltb h.mag lo) _ _ (λ _. omega arith)
    (λ _. picks P (ltb hi h.mag) _ _ (λ _. omega arith) (λ g. ltb-false hi h.mag g))))
    (λ _. omega arith)
  where
    P : Whole → Type 0
    P w = w.value ≤ hi

atom_small : (l : List ℕ) → (atom_f.value l 6).measure.occupancy ≤ 2147483647
unfolding atom_columns measure_columns
atom_small l = let h = whole_high 0 100 (number_of l 54 6 3) 54 in omega arith

-- what a line reads to
abbrev Small : Reading → Type 0
Small x = SmallSpot (spot_read x)

judged_small : (c : ℕ) (r : Record) → SmallSpot (spot_of r) → Small (judged c r)
unfolding judged
judged_small c r s = picks Small (eqb c 0) (Ok r) (Err (Wrong (record { 0 = c }))) (λ _. s) (λ _. tt)

by_kind : (k : Kind) (l : List ℕ) → Small (reading_of k l)
unfolding reading_of
by_kind k l =
    picks Small (is AtomKind k) _ _ (λ _. judged_small (atom_f.fault l 6) (rec.Coordinate false (atom_f.value l 6)) (atom_small l))
    (λ _. picks Small (is Hetatm k) _ _ (λ _. judged_small (atom_f.fault l 6) (rec.Coordinate true (atom_f.value l 6)) (atom_small l))
    (λ _. picks Small (is Ter k) _ _ (λ _. judged_small _ _ tt)
    (λ _. picks Small (is Helix k) _ _ (λ _. judged_small _ _ tt)
    (λ _. picks Small (is Sheet k) _ _ (λ _. judged_small _ _ tt)
    (λ _. picks Small (is Conect k) _ _ (λ _. judged_small _ _ tt)
    (λ _. picks Small (is Master k) _ _ (λ _. judged_small _ _ tt)
    (λ _. picks Small (is End k) _ _ (λ _. judged_small _ _ tt)
    (λ _. picks Small (is Model k) _ _ (λ _. judged_small _ _ tt)
    (λ _. picks Small (is Endmdl k) _ _ (λ _. judged_small _ _ tt)
    (λ _. crystal_cases Small k l (λ _. judged_small _ _ tt) (λ _ _ _. judged_small _ _ tt) tt))))))))))

pub reading_small : (k : Kind) (l : List ℕ) (x : Reading) → x ≡ reading_of k l → SmallSpot (spot_read x)
reading_small k l x e = rw e (by_kind k l)

pub typed_small : (x : Reading) (r : Record) (p : Option Spot) → x ≡ Ok r → p ≡ spot_of r → SmallSpot (spot_read x) → SmallSpot p
typed_small x r p e q s = rw q (rw e at s)

pub site_small : (p : Option Spot) (q : Spot) (het : Bool) (a : Atom) → p ≡ Some q → q ≡ Site het a → SmallSpot p → a.measure.occupancy ≤ 2147483647
site_small p q het a e f s = rw (e, f) at s

-- the same of a line of a text
abbrev SmallLine : Line → Type 0
SmallLine l = SmallSpot (spot_in l)

columns_small : (k : Kind) (x : Reading) → Small x → SmallLine (line_in k x)
columns_small k (Ok r) s = s
columns_small k (Err (Wrong column)) s = tt
columns_small k (Err Untyped) s = picks SmallLine (is_named k) (line.Carried k) (line.Bad refusal.Name) (λ _. tt) (λ _. tt)

pub piece_small : (p : List ℕ) → SmallSpot (spot_in (line_of p))
unfolding line_of columns_of
piece_small p =
    picks SmallLine (ltb (length p) 81) (line.Bad refusal.Length) _ (λ _. tt)
    (λ _. picks SmallLine (eqb (get_or p 80 0) 10) _ (line.Bad refusal.LineEnd)
    (λ _. picks SmallLine (clean_at (take 80 p) 0 80) _ (line.Bad refusal.Byte)
    (λ _. columns_small (kind_of (take 80 p)) (reading_of (kind_of (take 80 p)) (take 80 p)) (by_kind (kind_of (take 80 p)) (take 80 p))) (λ _. tt)) (λ _. tt))

-- ---- the slot of an atom
small_pos : (v : ℕ) → v ≤ 2147483647 → to_z w32 v ≡ pos v
small_pos v h = rw (lt-ltb v (2 ^ 31) (omega arith))

pub atom_slot : (het : Bool) (a : Atom) (k : ℕ) → a.measure.occupancy ≤ 2147483647
    → SFits w32 a.measure.temperature
    → k ≡ pick het hetatm_kind atom_kind
    → ◌≡◌ {A = Slot} (record {
      serial = a.identity.serial;
      number = a.identity.residue.number;
      position = a.measure.position;
      occupancy = to_z w32 a.measure.occupancy;
      temperature = held a.measure.temperature;
      kind = k;
      mark = 0;
      name = a.identity.name;
      alternate = a.identity.alternate;
      residue = a.identity.residue.name;
      chain = a.identity.residue.chain;
      insertion = a.identity.residue.insertion;
      element = a.species.element;
      charge = a.species.charge;
      model = 0;
    }) (slot_of_atom het a)
atom_slot het a k h ft e = rw (small_pos a.measure.occupancy h, to_z-of_z w32 a.measure.temperature ft, e)

-- ---- a line
pub slot_short : (l : List ℕ) → (length l ≡ 80 → ⊥) → Err 1 ≡ slot_line l
unfolding slot_line
slot_short l z = rw (ne_eqb _ _ z)

-- m is the line as its 80 columns
module _ (l m : List ℕ) (h : length l ≡ 80) (e : m ≡ l) (p : Bool) (pe : p ≡ clean_at m 0 80) where
  pub slot_odd : p ≡ false → Err 3 ≡ slot_line l
  unfolding slot_line
  slot_odd f = rw (eq-eqb _ _ h, ← e, sym pe ∙ f)

  module _ (t : p ≡ true) (k : Kind) (ek : k ≡ kind_of m) (q : Bool) (qe : q ≡ has_slot k) where
    pub slot_none : q ≡ false → Err 4 ≡ slot_line l
    unfolding slot_line
    slot_none f = rw (eq-eqb _ _ h, ← e, sym pe ∙ t, ← ek, sym qe ∙ f)

    pub slot_read : (x : Reading) (r : Result Slot ℕ) → q ≡ true → x ≡ reading_of k m → r ≡ fill_in x → r ≡ slot_line l
    unfolding slot_line
    slot_read x r g ex er = rw (eq-eqb _ _ h, ← e, sym pe ∙ t, ← ek, sym qe ∙ g) (er ∙ ap fill_in ex)
