use Rattle.gate.specs.Gate.{refused_of}
use borrow.Author.Rules.{rules}
use Rattle.gate.proofs.refused.Goals as goal

pub returns-clause-numbers : goal.returns-clause-numbers
unfolding refused_of
returns-clause-numbers c = search rules
