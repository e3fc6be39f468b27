use Rattle.feed.proofs.Returns.{span_middle}
use Rattle.feed.proofs.doubles.middle.Goals as goal

pub returns : goal.returns
returns c = search span_middle
