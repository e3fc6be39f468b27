use Rattle.ascii.proofs.Bools.{and_both, or_either}
use Rattle.rules.specs.Rules.{site_next}
use Rattle.rules.proofs.steps.site_next.Goals as goal

pub returns : goal.returns
unfolding site_next
returns c = simp (and_both, or_either)
