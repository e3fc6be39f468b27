use Rattle.trail.specs.Trail.{Watched}
use Rattle.store.proofs.Looking.{Seen}
use Rattle.store.proofs.survey.look_over.Given as goal

abbrev pub invariant-loop-i : goal.invariant-loop-i
invariant-loop-i l = Seen l.text l.table l.i l.c.past l.c.state l.k l.model l.fits l.kept l.fences × Watched l.text l.c.past.block l.c.watch
