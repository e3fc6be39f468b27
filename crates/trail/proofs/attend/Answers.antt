use Rattle.trail.proofs.attend.Goals as goal

pub returns-then-x-w-2 : goal.returns-then-x-w-2
returns-then-x-w-2 c = (c.risen.ensures.0, c.risen.ensures.1 _ c.requires.0 c.requires.2)

pub returns-then-x-w-3 : goal.returns-then-x-w-3
returns-then-x-w-3 c = (c.fallen.ensures.0, c.fallen.ensures.1 _ c.requires.0 c.requires.2)
