use Rattle.rules.specs.Rules.{start_of}
use Rattle.rules.proofs.start.Goals as goal

pub returns : goal.returns
unfolding start_of
returns c = rw (c.no_counts.ensures, c.no_run.ensures)
