-- What the reader's calls give, put together. Assumes nothing.
use mathlib.Core.Path.{◌≡◌, refl, ◌∙◌, subst}
use mathlib.Core.List.{List, [], ◌∷◌}
use mathlib.Core.Bool.{Bool}
use mathlib.Core.Logic.{inl, inr}
use Prim.Native.Nat.{ℕ, ◌+◌}
use native.Mathlib.Omega.{arith}
use Rattle.std.specs.Prelude.{bytes_eq}
use lib.ListN.{get_or}
use lib.Dec.{eqb}
use lib.IntN.{ℤ, nat_abs}
use mir.Syntax.{w32}
use mir.Val.{SFits, to_z, of_z}
use mir.ValLaws.{to_z-of_z}
use Rattle.ascii.specs.Tests.{both}
use Rattle.columns.specs.Columns.{first_of, gap_of, Put, blanks, blame}
use Rattle.columns.proofs.Puts.{put_then}
use Rattle.numbers.specs.Number.{render}
use Rattle.fields.specs.Field.{Signed}
use Rattle.fields.specs.Field.{signed_number, spans_of, is_neg, same_integer}
use Rattle.names.specs.Names.{name_at, is_residue, is_chain, is_insertion}
use Rattle.residue.specs.Residues.{same_residue, residue_f, residue_columns}
use Rattle.residue.specs.declared.Residue.{Residue}
use Rattle.fields.proofs.Formats.{Lawful, shut_lawful, then_lawful, after_lawful, held_lawful, integer_lawful}
use Rattle.fields.proofs.Sides.{HasColumn, has_right}
use Rattle.fields.specs.Format.{blank_fields}
use Rattle.names.proofs.Shapes.{byte_lawful, name_lawful}
use Rattle.names.proofs.Classes.{chain_fine, insertion_fine, residue_fine}

pub judges : (r : Residue) (a b c d e1 e2 e3 : Bool)
    → a ≡ is_residue r.name → b ≡ is_chain r.chain
    → SFits w32 r.number.0 → c ≡ spans_of 999 9999 (to_z w32 (of_z w32 r.number.0))
    → d ≡ is_insertion r.insertion
    → e1 ≡ both c d → e2 ≡ both b e1 → e3 ≡ both a e2
    → e3 ≡ (residue_f 0).ok r
unfolding residue_columns
judges r a b c d e1 e2 e3 pa pb s pc pd q1 q2 q3 = q3 ∙ rw (q2, q1, pa, pb, pc, pd, to_z-of_z w32 r.number.0 s)

-- the columns after the first six, and the gap among them, are 10 in all
sum : (gap : ℕ) → 3 + (1 + (1 + (gap + (4 + 1)))) ≡ 10 + gap
sum gap = omega arith

pub writes : (l l1 l2 l3 l4 l5 l6 : List ℕ) (at gap : ℕ) (r : Residue)
    → Put l at 3 (name_at 3 r.name 0) l1
    → Put l1 (at + 3) 1 (blanks 1) l2
    → Put l2 (at + 3 + 1) 1 (r.chain ∷ []) l3
    → Put l3 (at + 3 + 1 + 1) gap (blanks gap) l4
    → SFits w32 r.number.0
    → Put l4 (at + 3 + 1 + 1 + gap) 4 (render 4 0 (is_neg (to_z w32 (of_z w32 r.number.0))) (nat_abs (to_z w32 (of_z w32 r.number.0)))) l5
    → Put l5 (at + 3 + 1 + 1 + gap + 4) 1 (r.insertion ∷ []) l6
    → Put l at (10 + gap) ((residue_f gap).text r) l6
unfolding residue_columns
writes l l1 l2 l3 l4 l5 l6 at gap r a b c d s e f =
    subst (λ (n : ℕ). Put l at n ((residue_f gap).text r) l6) (sum gap)
    (put_then a (put_then b (put_then c (put_then d (put_then (rw (to_z-of_z w32 r.number.0 s) at e) f)))))

-- the range of a residue does not depend on where it stands
pub same_range : (gap : ℕ) (r : Residue) → (residue_f gap).ok r ≡ (residue_f 0).ok r
unfolding residue_columns
same_range gap r = refl

abbrev to : (List ℕ × (ℕ × (ℤ × ℕ))) → Residue
to = λ (name, (chain, (number, insertion))). record { name = name; chain = chain; number = record { 0 = number }; insertion = insertion }

abbrev from : Residue → (List ℕ × (ℕ × (ℤ × ℕ)))
from r = (r.name, (r.chain, (r.number.0, r.insertion)))

pub residue_lawful : {begin : ℕ} (gap : ℕ) → Lawful (residue_f gap) begin
unfolding residue_columns
residue_lawful gap =
    shut_lawful (sum gap)
    (held_lawful to from (λ r. refl) (λ f. refl)
    (then_lawful (name_lawful 3 is_residue residue_fine)
    (after_lawful 1
    (then_lawful (byte_lawful is_chain chain_fine)
    (after_lawful gap (then_lawful (integer_lawful 4 999 9999 refl refl) (byte_lawful is_insertion insertion_fine)))))))

-- its chain is a field
pub chain_field : (gap at : ℕ) (l : List ℕ) → HasColumn (at + 3 + 1 + 1) ((residue_f gap).fields l at)
unfolding residue_columns HasColumn
chain_field gap at l = inr (has_right (at + 3 + 1 + 1) (blank_fields l (at + 3) 1) _ (inl refl))

pub equals : (a b : Residue) (name number rest tail r : Bool) → SFits w32 a.number.0 → SFits w32 b.number.0
    → name ≡ bytes_eq a.name b.name → number ≡ same_integer (to_z w32 (of_z w32 a.number.0)) (to_z w32 (of_z w32 b.number.0))
    → rest ≡ both number (eqb a.insertion b.insertion) → tail ≡ both (eqb a.chain b.chain) rest → r ≡ both name tail → r ≡ same_residue a b
unfolding same_residue
equals a b name number rest tail r fa fb en em er et e = e ∙ rw (et, er, em, en, to_z-of_z w32 a.number.0 fa, to_z-of_z w32 b.number.0 fb)
