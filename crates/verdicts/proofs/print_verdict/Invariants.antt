use Rattle.std.proofs.Common.{take}
use Rattle.std.specs.Io.KnownBytes.{Appends}
use Rattle.std.specs.List.{concat}
use Rattle.gate.specs.Gate.{told_by}
use Rattle.reporting.specs.Report.{numbers_of}
use Rattle.verdicts.specs.Printed.{pieces_of}
use Rattle.verdicts.proofs.print_verdict.Given as goal

-- the pieces so far
abbrev pub invariant-loop-i : goal.invariant-loop-i
invariant-loop-i g l = Appends (g.W.Write.contents l.fn.to) (g.W.Write.contents l.to) (concat (take l.i (pieces_of (numbers_of (told_by l.fn.v)))))
