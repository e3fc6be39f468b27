use Rattle.columns.proofs.Puts.{put_then}
use Rattle.coordinate.specs.Atoms.{atom_columns}
use Rattle.coordinate.proofs.AtomLayout.put.Goals as goal

pub returns : goal.returns
unfolding atom_columns
returns c = put_then c.put_identity.ensures (put_then c.put_blanks.ensures (put_then c.put_measure.ensures (put_then c.put_blanks-2.ensures c.put_species.ensures)))
