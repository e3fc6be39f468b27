use Rattle.feed.specs.Frame.{framed_of}
use Rattle.feed.proofs.framing.frame_of.Goals as goal

pub returns-in-Some : goal.returns-in-Some
unfolding framed_of
returns-in-Some c = rw (c.in-Some.is, c.extent.ensures)

pub returns-in-None : goal.returns-in-None
unfolding framed_of
returns-in-None c = rw c.in-None.is
