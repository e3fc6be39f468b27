-- What a look back over the lines seen says: whether the numbers on a CONECT line are the serials of atoms.
use Rattle.std.specs.Prelude.{◌∷◌, Option, Some, None}
use Rattle.ascii.specs.Library.{ℕ, List, [], Bool, true, false, eqb, pick, both, either}
use Rattle.conect.specs.declared.{Conect.Conect}
use Rattle.pieces.specs.declared.{Line.Line}
use Rattle.facets.specs.declared.{Spot.Spot, Spot.TheVariants.Site, Spot.TheVariants.Close}
use Rattle.facets.specs.Facets.{spot_in, is_fence}

-- the ATOM or HETATM line with serial n
abbrev pub is_atom : ℕ → Option Spot → Bool
is_atom n (Some (Site het a)) = eqb a.identity.serial.0 n
is_atom n (Some (Close t)) = false
is_atom n None = false

abbrev pub is_site : ℕ → Line → Bool
is_site n l = is_atom n (spot_in l)

-- one of the lines passes the test
unfoldable pub some_of : (Line → Bool) → List Line → Bool
some_of f [] = false
some_of f (l ∷ ls) = either (f l) (some_of f ls)

-- of the lines seen, those since the last MODEL or ENDMDL
unfoldable pub front : List Line → List Line
front [] = []
front (l ∷ ls) = pick (is_fence l) [] (l ∷ front ls)

-- n is the serial of an ATOM or HETATM line among those seen, in whichever model
abbrev pub named : List Line → ℕ → Bool
named seen n = some_of (is_site n) seen

-- a partner is known where it is there
abbrev pub partner_known : List Line → ℕ → Bool
partner_known seen n = either (eqb n 0) (named seen n)

-- each number on a CONECT line is the serial of an ATOM or HETATM line among those seen
abbrev pub bond_known : List Line → Option Conect → Bool
bond_known seen (Some c) =
    both (named seen c.serial.0)
    (both (partner_known seen c.a.0)
    (both (partner_known seen c.b.0)
    (both (partner_known seen c.c.0) (partner_known seen c.d.0))))
bond_known seen None = true
