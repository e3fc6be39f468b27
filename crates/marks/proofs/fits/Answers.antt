use Rattle.ascii.proofs.Bools.{and_both}
use Rattle.marks.proofs.Fitting.{fits_spot, fits_any}
use Rattle.marks.proofs.fits.Goals as goal

pub returns-then-is_coord : goal.returns-then-is_coord
returns-then-is_coord c = fits_spot _ _ _ _ c.is_coord.ensures c.if-is_coord.true _ c.line_slot.ensures _ c.same_slot.ensures _ (and_both _ _)

pub returns : goal.returns
returns c = fits_any _ _ _ _ c.is_coord.ensures c.if-is_coord.false
