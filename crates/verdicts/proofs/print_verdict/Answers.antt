use Rattle.std.proofs.Common.{ℕ, List, subst, arith}
use Rattle.std.specs.Io.KnownBytes.{Appends}
use Rattle.std.proofs.KnownBytes.{Appends-trans}
use lib.ListN.{get_or}
use Rattle.gate.specs.Gate.{told_by}
use Rattle.reporting.specs.Report.{numbers_of}
use Rattle.verdicts.specs.Printed.{spaced}
use Rattle.verdicts.proofs.Pieces.{next_piece}
use Rattle.verdicts.proofs.print_verdict.Goals as goal

-- the number with index i follows those before it
pub loop-i-preserved : goal.loop-i-preserved
loop-i-preserved g c =
    let held = g.W.Write.contents in
    let i = c.loop-i.i in
    let step = subst (λ (ns : List ℕ). Appends (held c.loop-i.to) (held c.put_next.new.to) (spaced (get_or ns i 0)))
    c.numbers-numbers.ensures c.in_ok-put_next.ensures in
    subst (Appends (held c.args.to.now) (held c.put_next.new.to)) (next_piece (numbers_of (told_by c.args.v)) i (omega arith) (omega arith))
    (Appends-trans _ _ _ _ _ c.loop-i.invariant step)
