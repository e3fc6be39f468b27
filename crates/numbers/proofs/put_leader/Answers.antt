use Rattle.numbers.proofs.Puts.{leader_none, leader_minus, leader_blank}
use Rattle.numbers.proofs.put_leader.Goals as goal

pub returns-then-n-eq0 : goal.returns-then-n-eq0
returns-then-n-eq0 c = search leader_none

pub returns-then-minus : goal.returns-then-minus
returns-then-minus c = search leader_minus

pub returns : goal.returns
returns c = search leader_blank
