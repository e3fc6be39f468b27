-- What two lines of the same atom share. Assumes nothing.
use Rattle.std.specs.Prelude.{bytes_eq}
use lib.Pointwise.{bytes_decides}
use Rattle.names.specs.Names.{name_at}
use Prim.Native.Nat.{ℕ}
use mathlib.Core.List.{List, ◌∷◌, ◌++◌}
use mathlib.Core.Bool.{true}
use mathlib.Core.Path.{◌≡◌, ◌∙◌}
use borrow.Author.Tests.{eqb-true}
use lib.Dec.{eqb}
use Rattle.ascii.proofs.Choice.{both_split}
use Rattle.fields.specs.Field.{same_integer}
use Rattle.fields.proofs.Returns.{ints_same}
use Rattle.std.proofs.lemmas.Bool.Decides.{Decides-int_eq}
use Rattle.words.specs.Words.{word_at}
use Rattle.residue.specs.declared.Residue.{Residue}
use Rattle.residue.specs.Residues.{same_residue, residue_f, residue_columns}
use Rattle.coordinate.specs.declared.Identity.{Identity}
use Rattle.twins.specs.Twins.{same_atom}

-- ---- a residue as its six bytes from the chain on
unfoldable pub residue_word : Residue → ℕ
residue_word r = word_at ((residue_f 0).text r) 4 6

-- an atom's name, alternate letter and residue name as eight bytes
unfoldable pub identity_word : Identity → ℕ
identity_word w = word_at (name_at 4 w.name 0 ++ (w.alternate ∷ name_at 3 w.residue.name 0)) 0 8

-- ---- they are those of the same atom
same_name : (a b : List ℕ) → bytes_eq a b ≡ true → a ≡ b
same_name a b = (bytes_decides a b).0

residue_home : (a b : Residue) → same_residue a b ≡ true → residue_word a ≡ residue_word b
unfolding residue_word same_residue residue_columns
residue_home a b e =
    let n = both_split (bytes_eq a.name b.name) _ e in
    let c = both_split (eqb a.chain b.chain) _ n.1 in
    let i = both_split (same_integer a.number.0 b.number.0) _ c.1 in
    let z : a.number.0 ≡ b.number.0 = (Decides-int_eq a.number.0 b.number.0).0 (ints_same a.number.0 b.number.0 ∙ i.0) in
    rw (same_name a.name b.name n.0, eqb-true a.chain b.chain c.0, z, eqb-true a.insertion b.insertion i.1)

pub same_home : (a b : Identity) → same_atom a b ≡ true → residue_word a.residue ≡ residue_word b.residue
unfolding same_atom
same_home a b e =
    let f = both_split (bytes_eq a.name b.name) _ e in
    residue_home a.residue b.residue (both_split (eqb a.alternate b.alternate) _ f.1).1

pub same_body : (a b : Identity) → same_atom a b ≡ true → identity_word a ≡ identity_word b
unfolding identity_word same_atom same_residue
same_body a b e =
    let f = both_split (bytes_eq a.name b.name) _ e in
    let g = both_split (eqb a.alternate b.alternate) _ f.1 in
    let n = both_split (bytes_eq a.residue.name b.residue.name) _ g.1 in
    rw (same_name a.name b.name f.0, eqb-true a.alternate b.alternate g.0, same_name a.residue.name b.residue.name n.0)
