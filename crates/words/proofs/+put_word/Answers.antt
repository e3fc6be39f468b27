use Rattle.words.proofs.Returns.{bytes_none, bytes_some}
use Rattle.words.proofs.+put_word.Goals as goal

pub returns-then-n-eq0 : goal.returns-then-n-eq0
returns-then-n-eq0 t c = search bytes_none

pub returns : goal.returns
returns t c = search bytes_some
