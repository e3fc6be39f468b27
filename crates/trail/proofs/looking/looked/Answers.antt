use Rattle.trail.proofs.looking.looked.Goals as goal

pub returns : goal.returns
returns c = c.joined.ensures _ _ _ _ c.ranked-a.ensures c.passed-z.ensures
