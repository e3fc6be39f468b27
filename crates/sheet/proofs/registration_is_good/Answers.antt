use borrow.Author.Tests.{ne_eqb}
use Rattle.sheet.specs.Sheets.{registration_columns}
use Rattle.sheet.proofs.Registrations.{good_none}
use Rattle.sheet.proofs.registration_is_good.Goals as goal

pub returns-in-None : goal.returns-in-None
returns-in-None c = good_none _ _ c.in-None.is

pub returns-then-strand-ne1 : goal.returns-then-strand-ne1
unfolding registration_columns
returns-then-strand-ne1 c = rw (c.in-Some.is, ne_eqb _ _ c.if-strand-ne1.true) c.bond_is_good.ensures

pub returns-else-strand-ne1 : goal.returns-else-strand-ne1
unfolding registration_columns
returns-else-strand-ne1 c = rw (c.in-Some.is, c.if-strand-ne1.false)
