-- The columns of an ATOM or HETATM line are those that its atom is written as: so lines of the same atom have the same columns 13-20 and 22-27.
-- Assumes nothing.
use Rattle.std.proofs.Common.{Option, Some, None}
use Prim.Native.Nat.{ℕ, ◌≤◌}
use mathlib.Core.List.{List}
use mathlib.Core.Bool.{Bool, true}
use mathlib.Core.Path.{◌≡◌, refl, sym, ◌∙◌, ap}
use native.Mathlib.Omega.{arith}
use borrow.Author.Tests.{ltb-false, eqb-true}
use lib.Dec.{eqb, ltb}
use lib.ListN.{length, get_or, take, length-take}
use Rattle.ascii.proofs.Choice.{never, picks}
use Rattle.columns.specs.Columns.{clean_at}
use Rattle.columns.proofs.Faults.{first_split, left_split}
use Rattle.words.specs.Words.{word_at}
use Rattle.residue.specs.Residues.{residue_f, residue_columns}
use Rattle.residue.proofs.Returns.{residue_lawful}
use Rattle.coordinate.specs.declared.Identity.{Identity}
use Rattle.coordinate.specs.Atoms.{atom_f, atom_columns, identity_f, identity_columns}
use Rattle.kinds.specs.declared.Kind.{Kind}
use Rattle.line.proofs.Crystal.{crystal_cases}
use Rattle.kinds.specs.declared.Kind.TheVariants.{Atom, Hetatm, Ter, Helix, Sheet, Conect, Master, End, Model, Endmdl}
use Rattle.kinds.specs.Kinds.{is, is_named, kind_of}
use Rattle.line.specs.declared.Record.{Record}
use Rattle.line.specs.declared.Record.TheVariants as rec
use Rattle.std.specs.Prelude.{Ok, Err}
use Rattle.line.specs.declared.unread.Unread.TheVariants as unread
use Rattle.line.specs.Lines.{Reading, judged, reading_of}
use Rattle.pieces.specs.declared.Line.{Line}
use Rattle.pieces.specs.declared.Line.TheVariants.{Bad, Carried}
use Rattle.pieces.specs.Pieces.{line_in, columns_of, line_of}
use Rattle.facets.specs.declared.Spot.{Spot}
use Rattle.facets.specs.declared.Spot.TheVariants.{Site, Close}
use Rattle.facets.specs.Facets.{spot_of, spot_in}
use Rattle.keys.specs.Keys.{home_of, body_of}
use Rattle.keys.proofs.Columns.{word_cols}
use Rattle.twins.specs.Twins.{is_atom_of, is_twin}
use Rattle.twins.proofs.Same.{residue_word, identity_word, same_home, same_body}
use Rattle.refusals.specs.declared.Refusal.TheVariants as refusal

-- ---- the two words of an atom that reads without a fault
residue_fault : (l : List ℕ) → atom_f.fault l 6 ≡ 0 → (residue_f 0).fault l 17 ≡ 0
unfolding atom_columns identity_columns
residue_fault l e =
    let a = (left_split _ _ e).0 in
    let i = (first_split (identity_f.fault l 6) _ a).0 in
    (first_split _ _ (first_split _ _ (first_split _ _ (first_split _ _ i).1).1).1).1

atom_home : (l : List ℕ) → 80 ≤ length l → atom_f.fault l 6 ≡ 0 → word_at l 21 6 ≡ residue_word (atom_f.value l 6).identity.residue
unfolding residue_word atom_columns identity_columns
atom_home l h e =
    let k = ((residue_lawful {begin = 17} 0).kept l 17 (omega arith) (residue_fault l e)).0 in
    word_cols l 17 10 4 6 (omega arith) ∙ ap (λ (x : List ℕ). word_at x 4 6) (sym k)

atom_body : (l : List ℕ) → word_at l 12 8 ≡ identity_word (atom_f.value l 6).identity
unfolding word_at identity_word atom_columns identity_columns residue_columns
atom_body l = refl

-- ---- of each line
abbrev Written : List ℕ → Option Spot → Type 0
Written l (Some (Site het a)) = (word_at l 21 6 ≡ residue_word a.identity.residue) × (word_at l 12 8 ≡ identity_word a.identity)
Written l (Some (Close t)) = Unit {0}
Written l None = Unit {0}

module _ (l : List ℕ) (h : 80 ≤ length l) (k : Kind) where
  abbrev WrittenAs : Reading → Type 0
  WrittenAs x = Written l (spot_in (line_in k x))

  judged_written : (c : ℕ) (r : Record) → (c ≡ 0 → Written l (spot_of r)) → WrittenAs (judged c r)
  unfolding judged
  judged_written c r f = picks WrittenAs (eqb c 0) (Ok r) (Err (unread.Wrong (record { 0 = c }))) (λ t. f (eqb-true c 0 t)) (λ _. tt)

  site_written : (het : Bool) → WrittenAs (judged (atom_f.fault l 6) (rec.Coordinate het (atom_f.value l 6)))
  site_written het = judged_written (atom_f.fault l 6) (rec.Coordinate het (atom_f.value l 6)) (λ e. (atom_home l h e, atom_body l))

  by_kind : WrittenAs (reading_of k l)
  unfolding reading_of
  by_kind =
      picks WrittenAs (is Atom k) _ _ (λ _. site_written _)
      (λ _. picks WrittenAs (is Hetatm k) _ _ (λ _. site_written _)
      (λ _. picks WrittenAs (is Ter k) _ _ (λ _. judged_written _ _ (λ _. tt))
      (λ _. picks WrittenAs (is Helix k) _ _ (λ _. judged_written _ _ (λ _. tt))
      (λ _. picks WrittenAs (is Sheet k) _ _ (λ _. judged_written _ _ (λ _. tt))
      (λ _. picks WrittenAs (is Conect k) _ _ (λ _. judged_written _ _ (λ _. tt))
      (λ _. picks WrittenAs (is Master k) _ _ (λ _. judged_written _ _ (λ _. tt))
      (λ _. picks WrittenAs (is End k) _ _ (λ _. judged_written _ _ (λ _. tt))
      (λ _. picks WrittenAs (is Model k) _ _ (λ _. judged_written _ _ (λ _. tt))
      (λ _. picks WrittenAs (is Endmdl k) _ _ (λ _. judged_written _ _ (λ _. tt))
      (λ _. crystal_cases WrittenAs k l (λ _. judged_written _ _ (λ _. tt)) (λ _ _ _. judged_written _ _ (λ _. tt))
      (picks (λ (x : Line). Written l (spot_in x)) (is_named k) (Carried k) (Bad refusal.Name) (λ _. tt) (λ _. tt))))))))))))

piece_written : (p : List ℕ) → Written (take 80 p) (spot_in (line_of p))
unfolding line_of columns_of
piece_written p =
    let P : Line → Type 0 = λ (x : Line). Written (take 80 p) (spot_in x) in
    picks P (ltb (length p) 81) (Bad refusal.Length) _ (λ _. tt)
    (λ long.
    let h : 80 ≤ length (take 80 p) = omega (arith, length-take 80 p, ltb-false (length p) 81 long) in
    picks P (eqb (get_or p 80 0) 10) _ (Bad refusal.LineEnd)
    (λ _. picks P (clean_at (take 80 p) 0 80) _ (Bad refusal.Byte) (λ _. by_kind (take 80 p) h (kind_of (take 80 p))) (λ _. tt)) (λ _. tt))

-- ---- a line that is the atom a
spot_written : (l : List ℕ) (a : Identity) (p : Option Spot) → Written l p → is_atom_of a p ≡ true → (word_at l 21 6 ≡ residue_word a.residue) × (word_at l 12 8 ≡ identity_word a)
spot_written l a (Some (Site het b)) w e = (w.0 ∙ sym (same_home a b.identity e), w.1 ∙ sym (same_body a b.identity e))
spot_written l a (Some (Close t)) w e = never e
spot_written l a None w e = never e

line_written : (a : Identity) (p : List ℕ) → is_twin a (line_of p) ≡ true → (home_of p ≡ residue_word a.residue) × (body_of p ≡ identity_word a)
unfolding home_of body_of
line_written a p e = spot_written (take 80 p) a (spot_in (line_of p)) (piece_written p) e

-- two lines of the same atom have the same columns
pub twin_columns : (a : Identity) (p q : List ℕ) → is_twin a (line_of p) ≡ true → is_twin a (line_of q) ≡ true → (home_of q ≡ home_of p) × (body_of q ≡ body_of p)
twin_columns a p q e f =
    let x = line_written a p e in
    let y = line_written a q f in
    (y.0 ∙ sym x.0, y.1 ∙ sym x.1)
