use Rattle.columns.proofs.Puts.{put_then}
use Rattle.coordinate.specs.Atoms.{species_columns}
use Rattle.coordinate.proofs.put_species.Goals as goal

pub returns : goal.returns
unfolding species_columns
returns c = put_then c.put.ensures c.put-2.ensures
