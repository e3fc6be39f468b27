-- ATOM and HETATM are lawful. Assumes nothing.
use mathlib.Core.Path.{refl}
use Prim.Native.Nat.{ℕ}
use mathlib.Core.List.{List}
use lib.IntN.{ℤ}
use lib.Dec.{lit<}
use Rattle.fields.proofs.Sides.{HasColumn, has_right}
use Rattle.fields.specs.Format.{blank_fields, ◌then◌, after}
use Rattle.fields.proofs.Formats.{Lawful, whole_lawful, whole_real_lawful, real_lawful, then_lawful, after_lawful, held_lawful, under_lawful, has_first}
use Rattle.names.specs.Names.{is_atom_name, is_alternate, is_charge}
use Rattle.names.proofs.Shapes.{byte_lawful, name_lawful}
use Rattle.names.proofs.Classes.{atom_name_fine, alternate_fine, charge_fine}
use Rattle.elements.specs.Elements.{is_element}
use Rattle.elements.proofs.Rule.{element_fine}
use Rattle.residue.proofs.Returns.{residue_lawful}
use Rattle.residue.specs.declared.Residue.{Residue}
use Rattle.coordinate.specs.declared.Position.{Position}
use Rattle.coordinate.specs.declared.Identity.{Identity}
use Rattle.coordinate.specs.declared.Measure.{Measure}
use Rattle.coordinate.specs.declared.Species.{Species}
use Rattle.coordinate.specs.declared.Atom.{Atom}
use Rattle.coordinate.specs.Atoms.{coordinate_f, position_f, position_columns, identity_f, identity_columns, measure_f, measure_columns, species_f, species_columns, leads_element, atom_f, atom_columns}

coordinate_lawful : {begin : ℕ} → Lawful coordinate_f begin
coordinate_lawful = real_lawful 8 3 999999 9999999 refl refl

abbrev to_position : (ℤ × (ℤ × ℤ)) → Position
to_position = λ (x, (y, z)). record { x = x; y = y; z = z }

abbrev from_position : Position → (ℤ × (ℤ × ℤ))
from_position p = (p.x, (p.y, p.z))

position_lawful : {begin : ℕ} → Lawful position_f begin
unfolding position_columns
position_lawful = held_lawful to_position from_position (λ p. refl) (λ f. refl) (then_lawful coordinate_lawful (then_lawful coordinate_lawful coordinate_lawful))

abbrev to_identity : (ℕ × (List ℕ × (ℕ × Residue))) → Identity
to_identity = λ (serial, (name, (alternate, residue))).
    record { serial = record { 0 = serial }; name = name; alternate = alternate; residue = residue }

abbrev from_identity : Identity → (ℕ × (List ℕ × (ℕ × Residue)))
from_identity w = (w.serial.0, (w.name, (w.alternate, w.residue)))

pub identity_lawful : {begin : ℕ} → Lawful identity_f begin
unfolding identity_columns
identity_lawful =
    held_lawful to_identity from_identity (λ p. refl) (λ f. refl)
    (then_lawful (whole_lawful 5 1 99999 tt)
    (after_lawful 1 (then_lawful (name_lawful 4 is_atom_name atom_name_fine) (then_lawful (byte_lawful is_alternate alternate_fine) (residue_lawful 0)))))

abbrev to_measure : (Position × (ℕ × ℤ)) → Measure
to_measure = λ (position, (occupancy, temperature)). record { position = position; occupancy = occupancy; temperature = temperature }

abbrev from_measure : Measure → (Position × (ℕ × ℤ))
from_measure s = (s.position, (s.occupancy, s.temperature))

pub measure_lawful : {begin : ℕ} → Lawful measure_f begin
unfolding measure_columns
measure_lawful =
    held_lawful to_measure from_measure (λ p. refl) (λ f. refl)
    (then_lawful position_lawful (then_lawful (whole_real_lawful 6 2 0 100 tt) (real_lawful 6 2 9999 99999 refl refl)))

abbrev to_species : (List ℕ × List ℕ) → Species
to_species = λ (element, charge). record { element = element; charge = charge }

abbrev from_species : Species → (List ℕ × List ℕ)
from_species t = (t.element, t.charge)

species_lawful : {begin : ℕ} → Lawful species_f begin
unfolding species_columns
species_lawful =
    held_lawful to_species from_species (λ p. refl) (λ f. refl) (then_lawful (name_lawful 2 is_element element_fine) (name_lawful 2 is_charge charge_fine))

abbrev to_atom : (Identity × (Measure × Species)) → Atom
to_atom = λ (identity, (measure, species)). record { identity = identity; measure = measure; species = species }

abbrev from_atom : Atom → (Identity × (Measure × Species))
from_atom a = (a.identity, (a.measure, a.species))

-- the element is a field
element_field : (l : List ℕ) → HasColumn 77 ((identity_f then after 3 (measure_f then after 10 species_f)).fields l 6)
element_field l =
    has_right 77 (identity_f.fields l 6) _
    (has_right 77 (blank_fields l 27 3) _
    (has_right 77 (measure_f.fields l 30) _ (has_right 77 (blank_fields l 66 10) _ (has_first {F = species_f} {begin = 76} species_lawful (lit< tt) l))))

pub atom_lawful : Lawful atom_f 6
unfolding atom_columns
atom_lawful =
    under_lawful (λ (a : Atom). leads_element a.identity.name a.species.element) 77 tt
    element_field
    (held_lawful to_atom from_atom (λ p. refl) (λ f. refl) (then_lawful identity_lawful (after_lawful 3 (then_lawful measure_lawful (after_lawful 10 species_lawful)))))
