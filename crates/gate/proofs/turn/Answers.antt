use mathlib.Core.Path.{◌∙◌}
use Rattle.std.proofs.lemmas.Result.{IfOk-from_err}
use Rattle.refusals.proofs.Passed.{handed_on}
use Rattle.gate.proofs.Sofar.{judged_number}
use Rattle.gate.proofs.turn.Goals as goal

pub known-k-requires : goal.known-k-requires
known-k-requires c = c.requires.rising

pub look-g-requires : goal.look-g-requires
look-g-requires c = record {
  rising = c.requires.rising.0;
  i_in_bounds = c.requires.i_in_bounds;
  watched = c.requires.watched;
}

pub returns-in_err-judge : goal.returns-in_err-judge
returns-in_err-judge c = record {
  by_index = λ n s B E. handed_on c.from_residual.result c.in_err-judge.field-0.0 c.from_residual.ensures.1 ∙ judged_number _ _ _ _ _ _ (c.known-k.ensures n s B E) (c.look-g.ensures.by_index n s B) c.in_err-judge.ensures;
  state_value = IfOk-from_err c.from_residual.result _ c.from_residual.ensures.0;
  watched_2 = IfOk-from_err c.from_residual.result _ c.from_residual.ensures.0;
}

pub returns : goal.returns
returns c = record {
  by_index = λ n s B E. judged_number _ _ _ _ _ _ (c.known-k.ensures n s B E) (c.look-g.ensures.by_index n s B) c.in_ok-judge.ensures;
  state_value = (c.next.ensures, c.remember.ensures.0, c.remember.ensures.1);
  watched_2 = c.look-g.ensures.watched_2;
}
