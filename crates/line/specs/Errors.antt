-- Why a line is not read to a record.
use Rattle.columns.specs.declared.{Column.Column}
use Rattle.refusals.specs.declared.Refusal.TheVariants.{Name}
use Rattle.line.specs.declared.{unread.Unread.Unread, unread.Unread.TheVariants.Untyped, unread.Misread.Misread, unread.Misread.TheVariants.Refused}
use Rattle.line.specs.declared.unread.Unread.TheVariants as unread
use Rattle.line.specs.declared.unread.Misread.TheVariants as misread

-- a wrong field
abbrev pub wrong_of : Column → Unread
wrong_of c = unread.Wrong c

-- 4: a name that is unknown or carried; 6: a field or blank column wrong, with the first column of the leftmost one
abbrev pub misread_of : Unread → Misread
misread_of (unread.Wrong c) = misread.Wrong c
misread_of Untyped = Refused Name
