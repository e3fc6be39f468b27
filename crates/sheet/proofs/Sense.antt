-- The sense of a strand: its tests, and the rule of strand and sense among the fields.
-- Assumes nothing.
use mathlib.Core.Logic.{◌⊎◌, inl, inr}
use mathlib.Core.Path.{◌≡◌, refl, sym, ◌∙◌}
use mathlib.Core.List.{List}
use mathlib.Core.Bool.{Bool, true, false, beq}
use Prim.Native.Nat.{ℕ, zero, suc, ◌≤◌}
use native.Mathlib.Omega.{arith}
use lib.Dec.{eqb, ltb, lit<}
use lib.IntN.{ℤ, pos, negsuc, nat_abs}
use lib.ListN.{length}
use lib.Signed.{le_z}
use mir.Syntax.{w32}
use mir.Val.{SFits, to_z, of_z}
use mir.ValLaws.{to_z-of_z}
use borrow.Author.Tests.{ne_eqb, leb-true, lt-ltb}
use Rattle.std.proofs.Math.Dec.{eqb-suc-zero}
use Rattle.ascii.specs.Tests.{pick, both}
use Rattle.columns.specs.Columns.{first_of, gap_of, blame}
use Rattle.columns.proofs.Rules.{rule_past, gap_most}
use Rattle.fields.specs.Field.{is_neg, same_integer, ranged_number, signed_number}
use Rattle.fields.proofs.Formats.{whole_lawful, signed_single}
use Rattle.fields.proofs.Returns.{integers}
use Rattle.fields.proofs.Sides.{first_left, blame_first}
use Rattle.fields.proofs.Within.{fault_most}
use Rattle.names.specs.Names.{name_at, is_identifier}
use Rattle.names.proofs.Shapes.{name_lawful}
use Rattle.names.proofs.Classes.{identifier_fine}
use Rattle.residue.specs.Residues.{residue_f}
use Rattle.residue.proofs.Returns.{residue_lawful}
use Rattle.sheet.specs.Sheets.{is_sense, sense_fits, strand_f, strand_columns}

-- ---- tests
same_zero : (z : ℤ) → same_integer z (pos 0) ≡ eqb (nat_abs z) 0
unfolding is_neg both
same_zero (pos n) = refl
same_zero (negsuc n) = sym (eqb-suc-zero n)

fits : (t : Bool) (v : ℕ) → beq t (eqb v 0) ≡ pick t (eqb v 0) (ltb 0 v)
fits true zero = refl
fits true (suc v) = rw (eqb-suc-zero v)
fits false zero = refl
fits false (suc v) = rw (eqb-suc-zero v, lt-ltb 0 (suc v) (omega arith))

pub fits_is : (s : ℕ) (z : ℤ) → SFits w32 z → beq (eqb s 1) (eqb (of_z w32 z) 0) ≡ sense_fits s z
unfolding sense_fits
fits_is s z f = rw (integers z (pos 0) f (record { sfits = lit< tt }), same_zero z) (fits (eqb s 1) (nat_abs z))

at_least : (z : ℤ) → le_z (negsuc 0) z ≡ true → le_z z (pos 1) ≡ is_sense z
unfolding is_sense is_neg
at_least (pos n) t = refl
at_least (negsuc zero) t = refl
at_least (negsuc (suc n)) t = absurd (omega (arith, leb-true (suc n) 0 t))

below : (z : ℤ) → le_z (negsuc 0) z ≡ false → le_z (negsuc 0) z ≡ is_sense z
unfolding is_sense is_neg
below (pos n) t = cc
below (negsuc zero) t = refl
below (negsuc (suc n)) t = t ∙ sym (ne_eqb (suc (suc n)) 1 (λ q. omega arith))

module _ (z : ℤ) (f : SFits w32 z) where
  pub sense_least : le_z (negsuc 0) (to_z w32 (of_z w32 z)) ≡ true → le_z (to_z w32 (of_z w32 z)) (pos 1) ≡ is_sense z
  sense_least t = rw (to_z-of_z w32 z f) (at_least z (rw (to_z-of_z w32 z f) at t))

  pub sense_below : le_z (negsuc 0) (to_z w32 (of_z w32 z)) ≡ false → le_z (negsuc 0) (to_z w32 (of_z w32 z)) ≡ is_sense z
  sense_below t = rw (to_z-of_z w32 z f) (below z (rw (to_z-of_z w32 z f) at t))

-- ---- the rule blames the sense, which is the last field: it is checked after all of them
least : {x : ℕ} → (x ≡ 0) ⊎ (x ≡ 39) → x ≤ 39
least (inl z) = omega arith
least (inr z) = omega arith

pub strand_fault : (l : List ℕ) → length l ≡ 80 → strand_f.fault l 6 ≡
    first_of (gap_of l 6 1)
    (first_of (ranged_number 3 0 1 999 l 7).column
    (first_of (gap_of l 10 1)
    (first_of (blame (is_identifier (name_at 3 l 11)) 11)
    (first_of (ranged_number 2 0 1 99 l 14).column
    (first_of (gap_of l 16 1)
    (first_of ((residue_f 0).fault l 17)
    (first_of (gap_of l 27 1)
    (first_of ((residue_f 0).fault l 28)
    (first_of (signed_number 2 0 l 38).column
    (first_of (blame (is_sense (signed_number 2 0 l 38).value) 38)
    (blame (sense_fits (ranged_number 3 0 1 999 l 7).value (signed_number 2 0 l 38).value) 38)))))))))))
unfolding strand_columns
strand_fault l h =
    rule_past _ 39 _ _ _ (omega (arith, gap_most l 6 1))
    (rule_past _ 39 _ _ _ (omega (arith, fault_most (whole_lawful {begin = 7} 3 1 999 tt) l (omega arith)))
    (rule_past _ 39 _ _ _ (omega (arith, gap_most l 10 1))
    (rule_past _ 39 _ _ _ (omega (arith, fault_most (name_lawful {begin = 11} 3 is_identifier identifier_fine) l (omega arith)))
    (rule_past _ 39 _ _ _ (omega (arith, fault_most (whole_lawful {begin = 14} 2 1 99 tt) l (omega arith)))
    (rule_past _ 39 _ _ _ (omega (arith, gap_most l 16 1))
    (rule_past _ 39 _ _ _ (omega (arith, fault_most (residue_lawful {begin = 17} 0) l (omega arith)))
    (rule_past _ 39 _ _ _ (omega (arith, gap_most l 27 1))
    (rule_past _ 39 _ _ _ (omega (arith, fault_most (residue_lawful {begin = 28} 0) l (omega arith)))
    (rule_past _ 39 _ _ _ (least ((signed_single 2 0 9 99 refl refl).first l 38))
    (sym (first_left 38 _ _ (blame_first (is_sense (signed_number 2 0 l 38).value) 38))))))))))))
