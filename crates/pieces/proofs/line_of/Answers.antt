use mathlib.Core.Path.{sym}
use native.Mathlib.Omega.{arith}
use borrow.Author.Tests.{eqb-true, eqb-false}
use Rattle.pieces.proofs.Returns.{piece_short, piece_open, piece_read}
use Rattle.pieces.proofs.line_of.Goals as goal

pub returns-in_default : goal.returns-in_default
returns-in_default c = piece_short _ (omega (arith, c.in_default.ensures.cases))

pub returns-then-is_empty : goal.returns-then-is_empty
returns-then-is_empty c = piece_short _ (omega (arith, c.in-Some.ensures.cases.2, eqb-true _ _ (sym c.if-is_empty.ensures)))

pub returns-then-end-eq10 : goal.returns-then-end-eq10
returns-then-end-eq10 c =
    let h = c.in-Some.ensures.cases in
    let z = eqb-false _ _ (sym c.if-is_empty.ensures) in
    piece_read _ _ h.1 (omega (arith, h.2)) _ _ c.if-end-eq10.true h.0 c.line_of_columns.ensures

pub returns : goal.returns
returns c =
    let h = c.in-Some.ensures.cases in
    let z = eqb-false _ _ (sym c.if-is_empty.ensures) in
    piece_open _ _ h.1 (omega (arith, h.2)) c.if-end-eq10.false
