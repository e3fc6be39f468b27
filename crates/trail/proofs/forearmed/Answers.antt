use Rattle.trail.proofs.forearmed.Goals as goal

pub returns-then-wanting : goal.returns-then-wanting
returns-then-wanting c = (c.told.ensures.0, c.told.ensures.1, c.told.ensures.2 _ _ c.survey.ensures.2 c.requires.3)
