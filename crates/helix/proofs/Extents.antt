-- Both ends of a helix are of one chain: that rule among the fields.
-- Assumes nothing.
use mathlib.Core.Path.{◌≡◌, ◌∙◌, ap}
use mathlib.Core.List.{List}
use Prim.Native.Nat.{ℕ}
use native.Mathlib.Omega.{arith}
use lib.ListN.{length, get_or}
use lib.Dec.{eqb}
use Rattle.std.specs.Prelude.{Result}
use Rattle.ascii.specs.Tests.{same}
use Rattle.columns.specs.Columns.{first_of, gap_of, blame, leftmost}
use Rattle.columns.specs.declared.Column.{Column}
use Rattle.columns.specs.Answers.{read_as, lower_of}
use Rattle.columns.proofs.Rules.{rule_past, rule_field, lower_reads, gap_most}
use Rattle.fields.specs.Field.{ranged_number}
use Rattle.fields.proofs.Formats.{whole_lawful}
use Rattle.fields.proofs.Within.{fault_most}
use Rattle.names.specs.Names.{name_at, is_identifier}
use Rattle.names.proofs.Shapes.{name_lawful}
use Rattle.names.proofs.Classes.{identifier_fine}
use Rattle.residue.specs.Residues.{residue_f, residue_columns}
use Rattle.residue.proofs.Returns.{residue_lawful}
use Rattle.helix.specs.Helices.{extent_f, extent_columns}

-- what is read of the last residue, under the rule
pub last_read : {A : Type 0} (x : Result A Column) (y : Result (Unit {0}) Column) (z : Result A Column) (f r : ℕ) (v : A)
    → z ≡ lower_of x y → x ≡ read_as f v → y ≡ read_as r tt → z ≡ read_as (leftmost f r) v
last_read x y z f r v e p q = e ∙ rw (p, q) (lower_reads f r v)

-- the rule blames a column inside the last residue: it passes over all that stands before
pub extent_fault : (l : List ℕ) → length l ≡ 80 → extent_f.fault l 6 ≡
    first_of (gap_of l 6 1)
    (first_of (ranged_number 3 0 1 999 l 7).column
    (first_of (gap_of l 10 1)
    (first_of (blame (is_identifier (name_at 3 l 11)) 11)
    (first_of (gap_of l 14 1)
    (first_of ((residue_f 1).fault l 15)
    (first_of (gap_of l 26 1)
    (leftmost ((residue_f 1).fault l 27) (blame (eqb ((residue_f 1).value l 15).chain (get_or l 31 0)) 31))))))))
unfolding extent_columns residue_columns same
extent_fault l h =
    rule_past _ 32 _ _ _ (omega (arith, gap_most l 6 1))
    (rule_past _ 32 _ _ _ (omega (arith, fault_most (whole_lawful {begin = 7} 3 1 999 tt) l (omega arith)))
    (rule_past _ 32 _ _ _ (omega (arith, gap_most l 10 1))
    (rule_past _ 32 _ _ _ (omega (arith, fault_most (name_lawful {begin = 11} 3 is_identifier identifier_fine) l (omega arith)))
    (rule_past _ 32 _ _ _ (omega (arith, gap_most l 14 1))
    (rule_past _ 32 _ _ _ (omega (arith, fault_most (residue_lawful {begin = 15} 1) l (omega arith)))
    (rule_past _ 32 _ _ _ (omega (arith, gap_most l 26 1)) (ap (leftmost ((residue_f 1).fault l 27)) (rule_field _ 31))))))))
