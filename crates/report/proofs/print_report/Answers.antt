use Rattle.std.proofs.Common.{[], ℕ, List, subst, arith}
use Rattle.std.specs.Io.KnownBytes.{Appends}
use Rattle.std.proofs.KnownBytes.{Appends-trans}
use lib.ListN.{get_or}
use Rattle.gate.specs.Gate.{told_by}
use Rattle.reporting.specs.Report.{keys, listing}
use Rattle.report.specs.Printed.{line_of}
use Rattle.report.proofs.Lines.{next_line}
use Rattle.report.proofs.print_report.Goals as goal

-- the line with index i follows those before it
pub loop-i-preserved : goal.loop-i-preserved
loop-i-preserved g c =
    let held = g.W.Write.contents in
    let i = c.loop-i.i in
    let step = subst (λ (ns : List ℕ). Appends (held c.loop-i.to) (held c.print_line.new.to) (line_of (get_or keys i []) (get_or ns i 0)))
    c.numbers-numbers.ensures c.in_ok-print_line.ensures in
    subst (Appends (held c.args.to.now) (held c.print_line.new.to)) (next_line listing (told_by c.args.v) i (omega arith))
    (Appends-trans _ _ _ _ _ c.loop-i.invariant step)
