use mathlib.Core.Path.{◌≡◌}
use mathlib.Core.Bool.{Bool, true, false}
use Rattle.ascii.specs.Tests.{same, either}
use Rattle.ascii.proofs.Bools.{and_both}
use Rattle.coordinate.specs.Atoms.{leads_element}
use Rattle.coordinate.proofs.leads.Goals as goal

either_left : (a b : Bool) → a ≡ true → a ≡ either a b
unfolding either
either_left a b h = rw h

either_right : (a b : Bool) → a ≡ false → b ≡ either a b
unfolding either
either_right a b h = rw h

pub returns-then-n-e : goal.returns-then-n-e
unfolding leads_element same
returns-then-n-e c = simp and_both (either_left _ _ (simp and_both at c.if-n-e.true))

pub returns-else-n-e : goal.returns-else-n-e
unfolding leads_element same
returns-else-n-e c = simp (and_both, c.is_blank.ensures, c.is_full.ensures) (either_right _ _ (simp and_both at c.if-n-e.false))
