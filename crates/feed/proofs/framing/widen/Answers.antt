use mathlib.Core.Path.{◌≡◌, ◌∙◌}
use mir.Syntax.{w32}
use mir.Val.{to_z, of_z}
use Rattle.feed.specs.Frame.{lower, higher}
use Rattle.feed.proofs.Returns.{span_widened, min_lower, max_higher}
use Rattle.feed.proofs.framing.widen.Goals as goal

pub returns : goal.returns
returns c =
    let p : c.min.result ≡ lower (to_z w32 (of_z w32 c.args.s.low)) (to_z w32 (of_z w32 c.args.n)) = c.min.ensures.value ∙ min_lower _ _ in
    let q : c.max.result ≡ higher (to_z w32 (of_z w32 c.args.s.high)) (to_z w32 (of_z w32 c.args.n)) = c.max.ensures.value ∙ max_higher _ _ in
    search (span_widened, p, q)
