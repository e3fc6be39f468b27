use Rattle.words.proofs.Returns.{number_none, number_some}
use Rattle.words.proofs.+is_word.Goals as goal

pub returns-then-n-eq0 : goal.returns-then-n-eq0
returns-then-n-eq0 t c = search number_none

pub returns : goal.returns
returns t c = search number_some
