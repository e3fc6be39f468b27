use Rattle.std.proofs.Common.{arith}
use Rattle.columns.proofs.Loops.{gap_start, gap_next, gap_found, gap_end}
use Rattle.columns.proofs.Readers.{read_good, read_wrong}
use Rattle.columns.proofs.gap.Goals as goal

pub loop-i-init : goal.loop-i-init
loop-i-init c = gap_start _ _

pub loop-i-preserved : goal.loop-i-preserved
loop-i-preserved c = gap_next _ _ _ c.loop-i.invariant c.if-line-at-ne32.false

pub returns-then-line-at-ne32 : goal.returns-then-line-at-ne32
returns-then-line-at-ne32 c =
    let f = gap_found c.args.line.now c.args.at c.args.n _ c.loop-i-test.true c.loop-i.invariant c.if-line-at-ne32.true in
    rw f (read_wrong _ (tt {0}) (omega arith))

pub returns : goal.returns
returns c = read_good _ (tt {0}) (gap_end _ _ _ _ c.loop-i.auto.i-end c.loop-i-test.false c.loop-i.invariant)
