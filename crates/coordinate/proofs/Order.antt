-- Where the rule between an atom's name and its element stands among the fields, read from left to right.
-- Assumes nothing.
use mathlib.Core.Path.{◌≡◌, ◌∙◌, ap}
use mathlib.Core.Logic.{◌⊎◌}
use mathlib.Core.List.{List}
use mathlib.Core.Bool.{Bool}
use Prim.Native.Nat.{ℕ, ◌≤◌}
use native.Mathlib.Omega.{arith}
use lib.ListN.{length}
use Rattle.columns.specs.Columns.{blame, blamed_of, first_of, leftmost, gap_of}
use Rattle.columns.specs.Answers.{read_as}
use Rattle.columns.proofs.Rules.{rule_passes, rule_past, rule_first, rule_field, blame_most, blame_least, least_from, gap_most}
use Rattle.fields.specs.Format.{read_of}
use Rattle.fields.proofs.Within.{fault_most}
use Rattle.names.specs.Names.{name_at, name_f, is_charge}
use Rattle.elements.specs.Elements.{is_element}
use Rattle.coordinate.specs.Atoms.{identity_f, measure_f, species_f, species_columns, named_species_f, leads_element, atom_f, atom_columns}
use Rattle.coordinate.proofs.Laws.{identity_lawful, measure_lawful}

-- before the charge
between_fields : (t : Bool) (e c : ℕ) → e ≤ 77 → (c ≡ 0) ⊎ (77 ≤ c) → leftmost (first_of e c) (blamed_of t 77) ≡ first_of e (first_of (blame t 76) c)
between_fields t e c h g = rule_past t 77 e c _ h (rule_first t 77 c g ∙ ap (λ b. first_of b c) (rule_field t 76))

pub species_order : (l n : List ℕ) → read_of (named_species_f n) l 76
    ≡ read_as (first_of ((name_f 2 is_element).fault l 76) (first_of (blame (leads_element n (name_at 2 l 76)) 76) ((name_f 2 is_charge).fault l 78))) (species_f.value l 76)
unfolding species_columns
species_order l n =
    ap (λ x. read_as x (species_f.value l 76))
    (between_fields (leads_element n (name_at 2 l 76)) ((name_f 2 is_element).fault l 76) ((name_f 2 is_charge).fault l 78)
    (blame_most (is_element (name_at 2 l 76)) 76) (least_from (blame (is_charge (name_at 2 l 78)) 78) 79 77 (omega arith) (blame_least (is_charge (name_at 2 l 78)) 78)))

-- behind all that stands left of the element
pub atom_order : (l : List ℕ) → length l ≡ 80 → read_of atom_f l 6
    ≡ read_as
    (first_of (identity_f.fault l 6)
    (first_of (gap_of l 27 3) (first_of (measure_f.fault l 30) (first_of (gap_of l 66 10) ((named_species_f (identity_f.value l 6).name).fault l 76)))))
    (record { identity = identity_f.value l 6; measure = measure_f.value l 30; species = species_f.value l 76 })
unfolding atom_columns
atom_order l h =
    let t = leads_element (identity_f.value l 6).name (species_f.value l 76).element in
    ap (λ x. read_as x (record { identity = identity_f.value l 6; measure = measure_f.value l 30; species = species_f.value l 76 }))
    (rule_past t 77 (identity_f.fault l 6) _ _ (omega (arith, fault_most {F = identity_f} {begin = 6} identity_lawful l (omega arith)))
    (rule_past t 77 (gap_of l 27 3) _ _ (omega (arith, gap_most l 27 3))
    (rule_past t 77 (measure_f.fault l 30) _ _ (omega (arith, fault_most {F = measure_f} {begin = 30} measure_lawful l (omega arith)))
    (rule_passes t 77 (gap_of l 66 10) _ (omega (arith, gap_most l 66 10))))))
