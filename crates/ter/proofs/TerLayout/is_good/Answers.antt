use Rattle.ascii.proofs.Bools.{and_both, both_true}
use Rattle.ter.specs.Ters.{ter_columns}
use Rattle.ter.proofs.TerLayout.is_good.Goals as goal

pub returns : goal.returns
unfolding ter_columns
returns c = simp (and_both, both_true, c.ranged.ensures, c.is_good.ensures)
