use Rattle.columns.proofs.Faults.{blame_good, blame_bad}
use Rattle.columns.proofs.Readers.{read_good}
use Rattle.columns.proofs.judged.Goals as goal

pub returns-then-right : goal.returns-then-right
returns-then-right g c = read_good _ _ (blame_good _ _ c.if-right.true)

pub returns-else-right : goal.returns-else-right
returns-else-right g c = blame_bad _ _ _ c.if-right.false
