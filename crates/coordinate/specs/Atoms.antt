-- ATOM and HETATM: their columns 7 to 80.
use Rattle.ascii.specs.Library.{ℕ, List, Bool, get_or, ℤ, pick, both, either, same}
use Rattle.fields.specs.Format.{Format, whole_f, whole_real_f, real_f, byte_f, ◌then◌, after, held, under, shut}
use Rattle.names.specs.Names.{name_f, is_blank, is_full, is_atom_name, is_alternate, is_charge}
use Rattle.elements.specs.Elements.{is_element}
use Rattle.kinds.specs.declared.{Kind.Kind}
use Rattle.residue.specs.Residues.{residue_f}
use Rattle.coordinate.specs.declared.{Position.Position, Identity.Identity, Measure.Measure, Species.Species, Atom.Atom}
use Rattle.kinds.specs.declared.Kind.TheVariants as kind

-- ---- columns 31 to 54: three coordinates, each Real(8.3), in thousandths
abbrev pub coordinate_f : Format ℤ
coordinate_f = real_f 8 3 999999 9999999

unfoldable pub position_columns : Format Position
position_columns =
    held (coordinate_f then coordinate_f then coordinate_f) (λ (x, (y, z)). record { x = x; y = y; z = z }) (λ p. (p.x, (p.y, p.z)))

abbrev pub position_f : Format Position
position_f = shut 24 position_columns

-- ---- columns 7 to 27: serial 7-11, name 13-16, alternate location 17, residue 18-27
unfoldable pub identity_columns : Format Identity
identity_columns =
    held (whole_f 5 1 99999 then after 1 (name_f 4 is_atom_name then byte_f is_alternate then residue_f 0))
    (λ (serial, (name, (alternate, residue))).
    record { serial = record { 0 = serial }; name = name; alternate = alternate; residue = residue })
    (λ w. (w.serial.0, (w.name, (w.alternate, w.residue))))

abbrev pub identity_f : Format Identity
identity_f = shut 21 identity_columns

-- ---- columns 31 to 66: coordinates, then occupancy 55-60 and temperature factor 61-66, each Real(6.2), in hundredths
unfoldable pub measure_columns : Format Measure
measure_columns =
    held (position_f then whole_real_f 6 2 0 100 then real_f 6 2 9999 99999)
    (λ (position, (occupancy, temperature)). record { position = position; occupancy = occupancy; temperature = temperature })
    (λ s. (s.position, (s.occupancy, s.temperature)))

abbrev pub measure_f : Format Measure
measure_f = shut 36 measure_columns

-- ---- columns 77 to 80: element 77-78, charge 79-80
unfoldable pub species_columns : Format Species
species_columns =
    held (name_f 2 is_element then name_f 2 is_charge)
    (λ (element, charge). record { element = element; charge = charge }) (λ t. (t.element, t.charge))

abbrev pub species_f : Format Species
species_f = shut 4 species_columns

-- ---- columns 7 to 80. Columns 77 and 78 are blamed where the name in columns 13 to 16 is not one of the element
-- an atom's name begins with its element; one of a single letter may also stand in column 13 of a name that fills all four columns
unfoldable pub leads_element : List ℕ → List ℕ → Bool
leads_element n e =
    either (both (same (get_or n 0 0) (get_or e 0 0)) (same (get_or n 1 0) (get_or e 1 0)))
    (both (both (is_blank (get_or e 0 0)) (same (get_or n 0 0) (get_or e 1 0))) (is_full n))

-- columns 77 to 80 behind an atom's name
abbrev pub named_species_f : List ℕ → Format Species
named_species_f n = under species_f (λ t. leads_element n t.element) 77

unfoldable pub atom_columns : Format Atom
atom_columns =
    under
    (held (identity_f then after 3 (measure_f then after 10 species_f))
    (λ (identity, (measure, species)). record { identity = identity; measure = measure; species = species })
    (λ a. (a.identity, (a.measure, a.species))))
    (λ a. leads_element a.identity.name a.species.element) 77

abbrev pub atom_f : Format Atom
atom_f = shut 74 atom_columns

-- HETATM, or ATOM
abbrev pub coordinate_kind : Bool → Kind
coordinate_kind het = pick het kind.Hetatm kind.Atom
