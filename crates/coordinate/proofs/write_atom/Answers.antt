use Rattle.words.specs.Words.{bytes_of}
use Rattle.coordinate.proofs.write_atom.Goals as goal

pub returns-then-het-clause-line_after : goal.returns-then-het-clause-line_after
unfolding bytes_of
returns-then-het-clause-line_after c = rw c.if-het.true c.write.ensures.line_after

pub returns-else-het-clause-line_after : goal.returns-else-het-clause-line_after
unfolding bytes_of
returns-else-het-clause-line_after c = rw c.if-het.false c.write-else-het.ensures.line_after
