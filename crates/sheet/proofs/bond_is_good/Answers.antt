use Rattle.ascii.proofs.Bools.{and_both, both_assoc}
use Rattle.sheet.specs.Sheets.{bond_columns}
use Rattle.sheet.proofs.bond_is_good.Goals as goal

pub returns : goal.returns
unfolding bond_columns
returns c = simp (and_both, both_assoc, c.is_bond_name.ensures, c.is_good.ensures, c.is_bond_name-2.ensures, c.is_good-2.ensures)
