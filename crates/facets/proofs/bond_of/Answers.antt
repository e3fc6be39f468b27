use Rattle.facets.proofs.Others.{bond_others}
use Rattle.facets.proofs.bond_of.Goals as goal

pub returns-in-Conect : goal.returns-in-Conect
returns-in-Conect c = rw c.in-Conect.is

pub returns-in_default : goal.returns-in_default
returns-in_default c = rw (bond_others c.args.r c.in_default.not-Conect)
