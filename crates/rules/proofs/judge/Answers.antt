use Rattle.rules.specs.Rules.{judge_of}
use Rattle.rules.proofs.judge.Goals as goal

pub returns-in-Bad : goal.returns-in-Bad
unfolding judge_of
returns-in-Bad c = rw c.in-Bad.is

pub returns-in-Wrong : goal.returns-in-Wrong
unfolding judge_of
returns-in-Wrong c = rw (c.in-Wrong.is, c.wrong_bad.ensures)

pub returns-in-Carried : goal.returns-in-Carried
unfolding judge_of
returns-in-Carried c = rw (c.in-Carried.is, c.carried_bad.ensures)

pub returns-in-Typed : goal.returns-in-Typed
unfolding judge_of
returns-in-Typed c = rw (c.in-Typed.is, c.typed_bad.ensures)
