use Rattle.sheet.proofs.Sense.{fits_is}
use Rattle.sheet.proofs.sense_fits.Goals as goal

pub returns : goal.returns
returns c = fits_is _ _ c.ranges.z
