use Rattle.rules.specs.Rules.{typed_next}
use Rattle.rules.proofs.typed_next.Goals as goal

pub returns : goal.returns
unfolding typed_next
returns c = rw (c.raise.ensures, c.count_at.ensures, c.ladder_next.ensures, c.helix_next.ensures, c.bond_next.ensures, c.run_next.ensures, c.last_next.ensures, c.models_next.ensures, c.row_of.ensures, c.fence_of-fence.ensures, c.fold_of-fold.ensures, c.bond_of.ensures, c.spot_of-spot.ensures, c.record_kind-k.ensures)
