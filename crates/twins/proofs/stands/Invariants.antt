use mathlib.Core.Bool.{false}
use Rattle.rows.specs.Text.{row}
use Rattle.twins.specs.Standing.{Stands}
use Rattle.twins.proofs.stands.Given as goal

abbrev pub invariant-loop-j : goal.invariant-loop-j
invariant-loop-j l = Stands l.a (row l.text) l.from l.j false
