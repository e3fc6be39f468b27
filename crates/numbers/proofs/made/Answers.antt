use Rattle.numbers.proofs.Runs.{made_yes, made_no}
use Rattle.numbers.proofs.made.Goals as goal

pub returns-then-good : goal.returns-then-good
returns-then-good c = made_yes _ _ _ c.if-good.true

pub returns-else-good : goal.returns-else-good
returns-else-good c = made_no _ _ _ c.if-good.false
