use mir.Syntax.{w32}
use mir.ValLaws.{to_z-of_z}
use Rattle.ascii.proofs.Bools.{and_both, both_assoc}
use Rattle.sheet.specs.Sheets.{strand_columns}
use Rattle.sheet.proofs.strand_is_good.Goals as goal

pub returns : goal.returns
unfolding strand_columns
returns c = simp (and_both, both_assoc, c.ranged.ensures, c.is_identifier.ensures, c.ranged-2.ensures, c.is_good.ensures, c.is_good-2.ensures, c.spans.ensures, c.is_sense.ensures, c.sense_fits.ensures, to_z-of_z w32 c.args.s.sense (search))
