use mathlib.Core.Path.{refl, ◌∙◌}
use Prim.Native.Nat.{◌*◌, ◌<◌}
use native.Mathlib.Omega.{arith}
use lib.ListN.{length}
use Rattle.gate.proofs.Sofar.{sofar_start, sofar_rising, sofar_reached, sofar_done, turn_refused, turn_next, turn_watched, watched_on}
use Rattle.gate.proofs.Told.{column_number, column_told}
use Rattle.refusals.proofs.Positive.{number_positive}
use Rattle.gate.proofs.check.Goals as goal

pub loop-i-init : goal.loop-i-init
loop-i-init c = (sofar_start _ _ _ c.start-c.ensures.state_value.0 c.start-c.ensures.state_value.1 c.start-c.ensures.state_value.2, watched_on _ _ _ _ c.start-c.ensures.state_value.1 (c.start-c.ensures.by_index _))

pub turn-requires-clause-rising : goal.turn-requires-clause-rising
turn-requires-clause-rising c = (sofar_rising _ _ _ _ c.loop-i.invariant.0, sofar_reached _ _ _ _ c.loop-i.invariant.0)

pub returns-clause-numbers : goal.returns-clause-numbers
returns-clause-numbers c = sofar_done _ _ _ _ _ c.loop-i.invariant.0 (omega arith) c.finish.ensures.numbers

pub returns-in-Err-clause-numbers : goal.returns-in-Err-clause-numbers
returns-in-Err-clause-numbers c =
    let S = c.loop-i.invariant.0 in
    let n = c.in-Err.ensures.by_index _ _ S.block S.behind in
    c.refused.ensures.numbers ∙ turn_refused _ _ _ _ S (omega arith) _ _ c.line_at-l.ensures n (λ z. omega (arith, number_positive c.in-Err.r, z)) _ (column_number _ _ c.column_of.ensures)

pub returns-in-Err-clause-column : goal.returns-in-Err-clause-column
returns-in-Err-clause-column c = c.refused.ensures.column (column_told _ _ c.column_of.ensures)

pub loop-i-preserved : goal.loop-i-preserved
loop-i-preserved c =
    let S = c.loop-i.invariant in
    let h : 81 * c.loop-i.i < length c.args.text.now = omega arith in
    let el = c.line_at-l.ensures in
    let n = c.in-Ok.ensures.by_index _ _ S.0.block S.0.behind in
    let e = c.in-Ok.ensures.state_value in
    (turn_next _ _ _ _ S.0 h _ _ el n refl _ (record { block = e.1; earlier = e.2 }) _ e.0, turn_watched _ _ _ _ S.0 h _ _ el n refl _ c.in-Ok.ensures.watched_2 _ e.1)
