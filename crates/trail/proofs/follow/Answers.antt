use mathlib.Core.Path.{◌∙◌, ap}
use borrow.Author.Tests.{le-ltb}
use Rattle.keys.specs.Keys.{home_of}
use Rattle.trail.proofs.follow.Goals as goal

pub returns-clause-watched_2 : goal.returns-clause-watched_2
returns-clause-watched_2 c h = rw (le-ltb _ _ c.if-b.false) (c.first.ensures _ _ (c.home-x.ensures ∙ ap home_of c.piece_at.ensures) c.requires.watched)
