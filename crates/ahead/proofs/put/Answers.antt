use mathlib.Core.Logic.{⊎_elim}
use mathlib.Core.Path.{◌≡◌}
use borrow.Author.Tests.{eq-eqb, ne_eqb}
use Rattle.ahead.specs.Stamps.{put_of}
use Rattle.ahead.proofs.put.Goals as goal

pub returns-then-v-tag : goal.returns-then-v-tag
unfolding put_of
returns-then-v-tag c = ⊎_elim (λ (e : c.args.v ≡ 0). rw (eq-eqb c.args.v 0 e)) (λ e. rw (ne_eqb c.args.v 0 e.0, eq-eqb c.args.v c.args.tag e.1)) c.if-v-tag.either

pub returns-else-v-tag : goal.returns-else-v-tag
unfolding put_of
returns-else-v-tag c = rw (ne_eqb _ _ c.if-v-tag.false.0, ne_eqb _ _ c.if-v-tag.false.1)
