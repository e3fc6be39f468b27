-- TER is lawful. Assumes nothing.
use mathlib.Core.Path.{refl}
use Rattle.fields.proofs.Formats.{Lawful, whole_lawful, none_lawful, then_lawful, after_lawful, held_lawful}
use Rattle.residue.proofs.Returns.{residue_lawful}
use Prim.Native.Nat.{ℕ}
use Rattle.residue.specs.declared.Residue.{Residue}
use Rattle.ter.specs.declared.Ter.{Ter}
use Rattle.ter.specs.Ters.{ter_f, ter_columns}

abbrev to : (ℕ × (Residue × Unit {0})) → Ter
to = λ (serial, (residue, none)). record { serial = record { 0 = serial }; residue = residue }

abbrev from : Ter → (ℕ × (Residue × Unit {0}))
from t = (t.serial.0, (t.residue, tt))

pub ter_lawful : Lawful ter_f 6
unfolding ter_columns
ter_lawful =
    held_lawful to from (λ t. refl) (λ f. refl)
    (then_lawful (whole_lawful 5 1 99999 tt) (after_lawful 6 (then_lawful (residue_lawful 0) (after_lawful 53 none_lawful))))
