-- What is compared field by field is the same as itself. Assumes nothing.
use Rattle.std.specs.Prelude.{bytes_eq}
use lib.Pointwise.{bytes_decides}
use mathlib.Core.List.{List}
use Prim.Native.Nat.{ℕ}
use mathlib.Core.Bool.{true}
use mathlib.Core.Path.{◌≡◌, refl, sym, ◌∙◌}
use borrow.Author.Tests.{eq-eqb}
use lib.Dec.{eqb}
use lib.IntN.{ℤ}
use Rattle.ascii.proofs.Choice.{both_join}
use Rattle.fields.specs.Field.{same_integer}
use Rattle.fields.proofs.Returns.{ints_same}
use Rattle.std.proofs.lemmas.Bool.Decides.{Decides-int_eq}
use Rattle.residue.specs.declared.Residue.{Residue}
use Rattle.residue.specs.Residues.{same_residue}
use Rattle.coordinate.specs.declared.Identity.{Identity}
use Rattle.twins.specs.Twins.{same_atom}

pub equal : (n : ℕ) → eqb n n ≡ true
equal n = eq-eqb n n refl

pub integer_self : (z : ℤ) → same_integer z z ≡ true
integer_self z = sym (ints_same z z) ∙ (Decides-int_eq z z).1 refl

pub name_self : (p : List ℕ) → bytes_eq p p ≡ true
name_self p = (bytes_decides p p).1 refl

pub residue_self : (r : Residue) → same_residue r r ≡ true
unfolding same_residue
residue_self r =
    both_join _ _ (name_self r.name)
    (both_join _ _ (equal r.chain)
    (both_join _ _ (integer_self r.number.0) (equal r.insertion)))

pub atom_self : (a : Identity) → same_atom a a ≡ true
unfolding same_atom
atom_self a = both_join _ _ (name_self a.name) (both_join _ _ (equal a.alternate) (residue_self a.residue))
