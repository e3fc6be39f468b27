use Rattle.crystal.specs.Crystal.{row_number}
use Rattle.crystal.proofs.Returns.{row_none}
use Rattle.crystal.proofs.row_number.Goals as goal

pub returns-in-Origx1 : goal.returns-in-Origx1
unfolding row_number
returns-in-Origx1 c = rw c.in-Origx1.is

pub returns-in-Origx2 : goal.returns-in-Origx2
unfolding row_number
returns-in-Origx2 c = rw c.in-Origx2.is

pub returns-in-Origx3 : goal.returns-in-Origx3
unfolding row_number
returns-in-Origx3 c = rw c.in-Origx3.is

pub returns-in-Scale1 : goal.returns-in-Scale1
unfolding row_number
returns-in-Scale1 c = rw c.in-Scale1.is

pub returns-in-Scale2 : goal.returns-in-Scale2
unfolding row_number
returns-in-Scale2 c = rw c.in-Scale2.is

pub returns-in-Scale3 : goal.returns-in-Scale3
unfolding row_number
returns-in-Scale3 c = rw c.in-Scale3.is

pub returns-in_default : goal.returns-in_default
returns-in_default c = row_none _ c.in_default.not-Origx1 c.in_default.not-Origx2 c.in_default.not-Origx3 c.in_default.not-Scale1 c.in_default.not-Scale2 c.in_default.not-Scale3
