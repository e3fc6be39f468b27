use Rattle.feed.proofs.Exactness.{i32_exact}
use Rattle.feed.proofs.doubles.exact.Goals as goal

pub returns : goal.returns
returns c = i32_exact c.ranges.n
