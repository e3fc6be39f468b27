use native.Mathlib.Omega.{arith}
use Rattle.tally.specs.Tally.{count_in, raised_tally}
use Rattle.tally.proofs.raise_tally.Goals as goal

pub overflow_add-result : goal.overflow_add-result
unfolding count_in
overflow_add-result c = let h = rw c.in-Remark.is at c.requires in omega arith

pub returns-in-Remark : goal.returns-in-Remark
unfolding raised_tally
returns-in-Remark c = rw c.in-Remark.is

pub overflow_add-result-in-Het : goal.overflow_add-result-in-Het
unfolding count_in
overflow_add-result-in-Het c = let h = rw c.in-Het.is at c.requires in omega arith

pub returns-in-Het : goal.returns-in-Het
unfolding raised_tally
returns-in-Het c = rw c.in-Het.is

pub overflow_add-result-in-Helix : goal.overflow_add-result-in-Helix
unfolding count_in
overflow_add-result-in-Helix c = let h = rw c.in-Helix.is at c.requires in omega arith

pub returns-in-Helix : goal.returns-in-Helix
unfolding raised_tally
returns-in-Helix c = rw c.in-Helix.is

pub overflow_add-result-in-Sheet : goal.overflow_add-result-in-Sheet
unfolding count_in
overflow_add-result-in-Sheet c = let h = rw c.in-Sheet.is at c.requires in omega arith

pub returns-in-Sheet : goal.returns-in-Sheet
unfolding raised_tally
returns-in-Sheet c = rw c.in-Sheet.is

pub overflow_add-result-in-Xform : goal.overflow_add-result-in-Xform
unfolding count_in
overflow_add-result-in-Xform c = let h = rw c.in-Xform.is at c.requires in omega arith

pub returns-in-Xform : goal.returns-in-Xform
unfolding raised_tally
returns-in-Xform c = rw c.in-Xform.is

pub overflow_add-result-in-Coord : goal.overflow_add-result-in-Coord
unfolding count_in
overflow_add-result-in-Coord c = let h = rw c.in-Coord.is at c.requires in omega arith

pub returns-in-Coord : goal.returns-in-Coord
unfolding raised_tally
returns-in-Coord c = rw c.in-Coord.is

pub overflow_add-result-in-Ter : goal.overflow_add-result-in-Ter
unfolding count_in
overflow_add-result-in-Ter c = let h = rw c.in-Ter.is at c.requires in omega arith

pub returns-in-Ter : goal.returns-in-Ter
unfolding raised_tally
returns-in-Ter c = rw c.in-Ter.is

pub overflow_add-result-in-Conect : goal.overflow_add-result-in-Conect
unfolding count_in
overflow_add-result-in-Conect c = let h = rw c.in-Conect.is at c.requires in omega arith

pub returns-in-Conect : goal.returns-in-Conect
unfolding raised_tally
returns-in-Conect c = rw c.in-Conect.is

pub overflow_add-result-in-Seq : goal.overflow_add-result-in-Seq
unfolding count_in
overflow_add-result-in-Seq c = let h = rw c.in-Seq.is at c.requires in omega arith

pub returns-in-Seq : goal.returns-in-Seq
unfolding raised_tally
returns-in-Seq c = rw c.in-Seq.is
