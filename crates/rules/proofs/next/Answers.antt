use mathlib.Core.Logic.{⊎_elim}
use Rattle.rules.specs.Rules.{next_of}
use Rattle.rules.proofs.next.Goals as goal

pub returns-in-Carried : goal.returns-in-Carried
unfolding next_of
returns-in-Carried c = rw (c.in-Carried.is, c.carried_next.ensures)

pub returns-in-Typed : goal.returns-in-Typed
unfolding next_of
returns-in-Typed c = rw (c.in-Typed.is, c.typed_next.ensures)

pub returns-in-Bad : goal.returns-in-Bad
unfolding next_of
returns-in-Bad c = ⊎_elim (λ x. rw x.1) (λ x. rw x.2) c.in-Bad.is
