use Rattle.columns.proofs.Puts.{put_then}
use Rattle.coordinate.specs.Atoms.{identity_columns}
use Rattle.coordinate.proofs.put_identity.Goals as goal

pub returns : goal.returns
unfolding identity_columns
returns c = put_then c.put_whole.ensures (put_then c.put_blanks.ensures (put_then c.put.ensures (put_then c.put_one.ensures c.put_residue.ensures)))
