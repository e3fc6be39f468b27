-- 21: no two ATOM or HETATM lines of a text, or of one model, share residue name, chain, residue number, insertion code, atom name and alternate letter.
use Rattle.std.specs.Prelude.{Option, Some, None, bytes_eq}
use Rattle.ascii.specs.Library.{List, Bool, false, eqb, both}
use Rattle.residue.specs.Residues.{same_residue}
use Rattle.coordinate.specs.declared.{Identity.Identity}
use Rattle.pieces.specs.declared.{Line.Line}
use Rattle.facets.specs.declared.{Spot.Spot, Spot.TheVariants.Site, Spot.TheVariants.Close}
use Rattle.facets.specs.Facets.{spot_in}
use Rattle.serials.specs.Known.{some_of, front}

-- the same atom: atom name, alternate letter, and the residue, which is its name, chain, number and insertion code
unfoldable pub same_atom : Identity → Identity → Bool
same_atom a b = both (bytes_eq a.name b.name) (both (eqb a.alternate b.alternate) (same_residue a.residue b.residue))

-- the atom a on an ATOM or HETATM line
abbrev pub is_atom_of : Identity → Option Spot → Bool
is_atom_of a (Some (Site het b)) = same_atom a b.identity
is_atom_of a (Some (Close t)) = false
is_atom_of a None = false

abbrev pub is_twin : Identity → Line → Bool
is_twin a l = is_atom_of a (spot_in l)

-- the atom of this line stands on one of those seen, in the same model
abbrev pub twin_of : List Line → Option Spot → Bool
twin_of seen (Some (Site het a)) = some_of (is_twin a.identity) (front seen)
twin_of seen (Some (Close t)) = false
twin_of seen None = false
