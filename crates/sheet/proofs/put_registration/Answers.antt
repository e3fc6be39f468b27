use borrow.Author.Tests.{ne_eqb}
use Rattle.sheet.specs.Sheets.{registration_columns}
use Rattle.sheet.proofs.Registrations.{text_none}
use Rattle.sheet.proofs.put_registration.Goals.{in_default-via-in-Some+else-strand-ne1, in_default-via-in_default}
use Rattle.sheet.proofs.put_registration.Goals as goal

pub returns-in-Some : goal.returns-in-Some
unfolding registration_columns
returns-in-Some c = rw (c.in-Some.is, ne_eqb _ _ c.if-strand-ne1.true) c.put_bond.ensures

pub returns-in_default : goal.returns-in_default
unfolding registration_columns
returns-in_default c = elim c.in_default.branch [
  | in_default-via-in-Some+else-strand-ne1 w ↦ rw (w.in-Some.is, w.if-strand-ne1.false) c.put_blanks.ensures
  | in_default-via-in_default w ↦ rw w.in_default.is (rw (text_none c.args.strand) at c.put_blanks.ensures)
]
