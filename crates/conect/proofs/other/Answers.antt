use lib.Dec.{eqb}
use Rattle.ascii.proofs.Bools.{not_pick}
use Rattle.conect.specs.Conects.{differs}
use Rattle.conect.proofs.other.Goals as goal

pub returns : goal.returns
unfolding differs
returns c = not_pick (eqb c.args.a c.args.b)
