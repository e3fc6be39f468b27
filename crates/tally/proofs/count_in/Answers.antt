use Rattle.tally.specs.Tally.{count_in}
use Rattle.tally.proofs.count_in.Goals as goal

pub returns-in-Remark : goal.returns-in-Remark
unfolding count_in
returns-in-Remark c = rw c.in-Remark.is

pub returns-in-Het : goal.returns-in-Het
unfolding count_in
returns-in-Het c = rw c.in-Het.is

pub returns-in-Helix : goal.returns-in-Helix
unfolding count_in
returns-in-Helix c = rw c.in-Helix.is

pub returns-in-Sheet : goal.returns-in-Sheet
unfolding count_in
returns-in-Sheet c = rw c.in-Sheet.is

pub returns-in-Xform : goal.returns-in-Xform
unfolding count_in
returns-in-Xform c = rw c.in-Xform.is

pub returns-in-Coord : goal.returns-in-Coord
unfolding count_in
returns-in-Coord c = rw c.in-Coord.is

pub returns-in-Ter : goal.returns-in-Ter
unfolding count_in
returns-in-Ter c = rw c.in-Ter.is

pub returns-in-Conect : goal.returns-in-Conect
unfolding count_in
returns-in-Conect c = rw c.in-Conect.is

pub returns-in-Seq : goal.returns-in-Seq
unfolding count_in
returns-in-Seq c = rw c.in-Seq.is
