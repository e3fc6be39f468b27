use Rattle.twins.proofs.carried_on.Goals as goal

pub returns-then-is_fence : goal.returns-then-is_fence
returns-then-is_fence c t b h = rw (← c.is_fence.ensures, c.if-is_fence.true) (c.start.ensures t)
