use Rattle.slots.specs.Slots.{with_model, spot_slot}
use mathlib.Core.Path.{◌∙◌, ap}
use Rattle.slots.proofs.line_slot.Goals as goal

pub spot_slot-requires : goal.spot_slot-requires
spot_slot-requires c = rw c.spot_in.ensures c.requires

pub returns : goal.returns
returns c = c.with_model.ensures ∙ ap (λ x. with_model x c.args.model) (c.spot_slot.ensures ∙ ap spot_slot c.spot_in.ensures)
