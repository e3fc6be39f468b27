use Rattle.words.specs.Words.{bytes_of}
use Rattle.cell.proofs.write_cell.Goals as goal

pub returns-clause-line_after : goal.returns-clause-line_after
unfolding bytes_of
returns-clause-line_after c = c.write.ensures.line_after
