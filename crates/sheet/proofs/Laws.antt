-- SHEET is lawful. Assumes nothing.
use mathlib.Core.Path.{◌≡◌, refl, sym, ◌∙◌, ap}
use mathlib.Core.List.{List, [], ◌∷◌}
use mathlib.Core.Bool.{Bool, true, false}
use mathlib.Core.Logic.{◌⊎◌, inl, inr}
use Prim.Native.Nat.{ℕ, ◌+◌, ◌<◌}
use native.Mathlib.Omega.{arith}
use native.Mathlib.Nat.{add-zero}
use lib.Dec.{eqb, lit<}
use lib.ListN.{get_or}
use lib.IntN.{ℤ}
use Rattle.std.specs.Prelude.{Option, Some, None}
use Rattle.ascii.specs.Tests.{pick, both, either, between, same}
use Rattle.columns.specs.Columns.{gap_of, blame}
use Rattle.ascii.proofs.Choice.{never}
use Rattle.columns.proofs.Faults.{first_split, blame_none}
use Rattle.columns.proofs.Spans.{gap_byte}
use Rattle.fields.proofs.Sides.{HasColumn, has_right}
use Rattle.fields.proofs.Formats.{Lawful, whole_lawful, signed_single, none_lawful, then_lawful, after_lawful, held_lawful, under_lawful}
use Rattle.fields.specs.Format.{blank_fields, shut, whole_f, integer_f, none_f, ◌then◌, after}
use Rattle.fields.specs.Choice.{only, maybe, blank}
use Rattle.names.specs.Names.{name_f, name_at, is_bond_name, is_identifier}
use Rattle.names.proofs.Classes.{bond_name_fine, identifier_fine}
use Rattle.names.proofs.Shapes.{name_lawful}
use Rattle.residue.specs.declared.Residue.{Residue}
use Rattle.residue.specs.Residues.{residue_f}
use Rattle.residue.proofs.Returns.{residue_lawful}
use Rattle.sheet.specs.declared.Bond.{Bond}
use Rattle.sheet.specs.declared.Strand.{Strand}
use Rattle.sheet.specs.declared.Sheet.{Sheet}
use Rattle.sheet.specs.Sheets.{is_sense, sense_fits, bond_f, bond_columns, filled_text, filled_ok, is_absent, registration_f, registration_columns, strand_f, strand_columns, sheet_f, sheet_columns}
use Rattle.fields.proofs.Choices.{only_lawful, maybe_lawful, blank_lawful, into_lawful}

abbrev to_bond : (List ℕ × (Residue × (List ℕ × Residue))) → Bond
to_bond = λ (atom, (residue, (otherAtom, other))). record { atom = atom; residue = residue; other_atom = otherAtom; other = other }

abbrev from_bond : Bond → (List ℕ × (Residue × (List ℕ × Residue)))
from_bond b = (b.atom, (b.residue, (b.other_atom, b.other)))

bond_lawful : {begin : ℕ} → Lawful bond_f begin
unfolding bond_columns
bond_lawful =
    held_lawful to_bond from_bond (λ b. refl) (λ f. refl)
    (then_lawful (name_lawful 4 is_bond_name bond_name_fine) (then_lawful (residue_lawful 0) (after_lawful 1 (then_lawful (name_lawful 4 is_bond_name bond_name_fine) (residue_lawful 0)))))

-- ---- a filled registration is not blank
blanks_no_name : is_bond_name (32 ∷ 32 ∷ 32 ∷ 32 ∷ []) ≡ false
unfolding either between same both
blanks_no_name = refl

bond_filled : (l : List ℕ) (at : ℕ) → bond_f.fault l at ≡ 0 → gap_of l at 29 ≡ 0 → ⊥
unfolding bond_columns
bond_filled l at q g =
    let t = blame_none (is_bond_name (name_at 4 l at)) at (first_split (blame (is_bond_name (name_at 4 l at)) at) _ q).0 in
    let b : (k i : ℕ) → k ≡ at + i → i < 29 → get_or l k 0 ≡ 32 = λ k i e h. rw e (gap_byte l at 29 i g h) in
    let e : name_at 4 l at ≡ 32 ∷ 32 ∷ 32 ∷ 32 ∷ [] =
    λ i. b at 0 (sym (add-zero at)) (lit< tt) i ∷ b (at + 1) 1 refl (lit< tt) i ∷ b (at + 1 + 1) 2 (omega arith) (lit< tt) i ∷ b (at + 1 + 1 + 1) 3 (omega arith) (lit< tt) i ∷ [] in
    never (sym blanks_no_name ∙ sym (ap is_bond_name e) ∙ t)

filled_cases : (r : Option Bond) → (r ≡ None) ⊎ ((b : Bond) × (r ≡ Some b))
filled_cases None = inl refl
filled_cases (Some b) = inr (b, refl)

absent_is : (r : Option Bond) → is_absent r ≡ true → None ≡ r
absent_is None e = refl
absent_is (Some b) e = never e

registration_lawful : {begin : ℕ} (s : ℕ) → Lawful (registration_f s) begin
unfolding registration_columns
registration_lawful {begin} s =
    go (eqb s 1)
  where
    go : (t : Bool) → Lawful (shut 29 (pick t (blank 29 None is_absent) (maybe bond_f None Some filled_text filled_ok))) begin
    go true = blank_lawful 29 None is_absent refl absent_is
    go false = maybe_lawful bond_f begin bond_lawful None Some filled_text filled_ok refl (λ b. refl) refl (λ b. refl) filled_cases bond_filled

abbrev to_strand : (ℕ × (List ℕ × (ℕ × (Residue × (Residue × ℤ))))) → Strand
to_strand = λ (strand, (id, (strands, (first, (last, sense))))).
    record { strand = strand; id = id; strands = strands; first = first; last = last; sense = sense }

abbrev from_strand : Strand → (ℕ × (List ℕ × (ℕ × (Residue × (Residue × ℤ)))))
from_strand s = (s.strand, (s.id, (s.strands, (s.first, (s.last, s.sense)))))

sense_lawful : {begin : ℕ} → Lawful (only (integer_f 2 9 99) is_sense) begin
sense_lawful = only_lawful is_sense (signed_single 2 0 9 99 refl refl) (lit< tt)

-- the sense is a field
sense_field : (l : List ℕ)
    → HasColumn 39 ((after 1 (whole_f 3 1 999 then after 1 (name_f 3 is_identifier then whole_f 2 1 99 then after 1 (residue_f 0 then after 1 (residue_f 0 then only (integer_f 2 9 99) is_sense))))).fields l 6)
unfolding HasColumn
sense_field l =
    has_right 39 (blank_fields l 6 1) _
    (inr (has_right 39 (blank_fields l 10 1) _
    (inr (inr (has_right 39 (blank_fields l 16 1) _
    (has_right 39 ((residue_f 0).fields l 17) _ (has_right 39 (blank_fields l 27 1) _ (has_right 39 ((residue_f 0).fields l 28) _ (inl refl)))))))))

strand_lawful : Lawful strand_f 6
unfolding strand_columns
strand_lawful =
    under_lawful (λ (s : Strand). sense_fits s.strand s.sense) 39 tt
    sense_field
    (held_lawful to_strand from_strand (λ s. refl) (λ f. refl)
    (after_lawful 1 (then_lawful (whole_lawful 3 1 999 tt)
    (after_lawful 1 (then_lawful (name_lawful 3 is_identifier identifier_fine) (then_lawful (whole_lawful 2 1 99 tt)
    (after_lawful 1 (then_lawful (residue_lawful 0) (after_lawful 1 (then_lawful (residue_lawful 0) sense_lawful))))))))))

abbrev to_sheet : (Strand × (Option Bond × Unit {0})) → Sheet
to_sheet = λ (strand, (registration, none)). record { strand = strand; registration = registration }

abbrev from_sheet : Sheet → (Strand × (Option Bond × Unit {0}))
from_sheet s = (s.strand, (s.registration, tt))

pub sheet_lawful : Lawful sheet_f 6
unfolding sheet_columns
sheet_lawful =
    held_lawful to_sheet from_sheet (λ s. refl) (λ f. refl)
    (into_lawful 40 strand_f (λ (s : Strand). after 1 (registration_f s.strand then after 10 none_f)) strand_lawful (λ s. after_lawful 1 (then_lawful (registration_lawful s.strand) (after_lawful 10 none_lawful))) (λ s. refl))
