use borrow.Author.Tests.{eq-eqb, ne_eqb}
use Rattle.gate.specs.Gate.{refused_of, finish_of}
use Rattle.gate.proofs.ended.Goals as goal

pub returns-then-s-eq-END_PLACE : goal.returns-then-s-eq-END_PLACE
unfolding finish_of
returns-then-s-eq-END_PLACE c = rw (eq-eqb _ _ c.if-s-eq-END_PLACE.true)

pub returns : goal.returns
unfolding finish_of refused_of
returns c = rw (ne_eqb _ _ c.if-s-eq-END_PLACE.false)
