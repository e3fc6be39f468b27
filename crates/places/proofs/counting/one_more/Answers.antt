use Rattle.places.specs.Counts.{raised}
use Rattle.places.proofs.counting.one_more.Goals as goal

pub returns-in-Remark : goal.returns-in-Remark
unfolding raised
returns-in-Remark c = rw c.in-Remark.is

pub returns-in-Het : goal.returns-in-Het
unfolding raised
returns-in-Het c = rw c.in-Het.is

pub returns-in-Helix : goal.returns-in-Helix
unfolding raised
returns-in-Helix c = rw c.in-Helix.is

pub returns-in-Sheet : goal.returns-in-Sheet
unfolding raised
returns-in-Sheet c = rw c.in-Sheet.is

pub returns-in-Xform : goal.returns-in-Xform
unfolding raised
returns-in-Xform c = rw c.in-Xform.is

pub returns-in-Coord : goal.returns-in-Coord
unfolding raised
returns-in-Coord c = rw c.in-Coord.is

pub returns-in-Ter : goal.returns-in-Ter
unfolding raised
returns-in-Ter c = rw c.in-Ter.is

pub returns-in-Conect : goal.returns-in-Conect
unfolding raised
returns-in-Conect c = rw c.in-Conect.is

pub returns-in-Seq : goal.returns-in-Seq
unfolding raised
returns-in-Seq c = rw c.in-Seq.is
