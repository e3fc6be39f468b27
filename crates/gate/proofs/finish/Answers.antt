use borrow.Author.Tests.{eq-eqb, ne_eqb}
use Rattle.gate.specs.Gate.{finish_of}
use Rattle.gate.proofs.finish.Goals as goal

pub returns-then-s-eq-END_PLACE-clause-numbers : goal.returns-then-s-eq-END_PLACE-clause-numbers
unfolding finish_of
returns-then-s-eq-END_PLACE-clause-numbers c = simp (eq-eqb _ _ c.if-s-eq-END_PLACE.true)

pub returns-else-s-eq-END_PLACE-clause-numbers : goal.returns-else-s-eq-END_PLACE-clause-numbers
unfolding finish_of
returns-else-s-eq-END_PLACE-clause-numbers c = simp (ne_eqb _ _ c.if-s-eq-END_PLACE.false) c.refused.ensures.numbers
