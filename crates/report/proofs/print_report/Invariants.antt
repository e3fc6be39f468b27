use Rattle.std.proofs.Common.{take}
use Rattle.std.specs.Io.KnownBytes.{Appends}
use Rattle.std.specs.List.{concat}
use Rattle.gate.specs.Gate.{told_by}
use Rattle.reporting.specs.Report.{listing}
use Rattle.report.specs.Printed.{lines_of}
use Rattle.report.proofs.print_report.Given as goal

-- the lines so far
abbrev pub invariant-loop-i : goal.invariant-loop-i
invariant-loop-i g l = Appends (g.W.Write.contents l.fn.to) (g.W.Write.contents l.to) (concat (take l.i (lines_of listing (told_by l.fn.v))))
