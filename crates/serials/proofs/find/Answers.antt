use mathlib.Core.Path.{sym, ◌∙◌}
use Rattle.rows.specs.Text.{row}
use Rattle.serials.proofs.Finding.{finds_not, finds_none}
use Rattle.serials.proofs.Rows.{piece_row}
use Rattle.serials.proofs.find.Goals.{else-m-b-via-then-m-b+else-site_at, else-m-b-via-else-m-b}
use Rattle.serials.proofs.find.Goals as goal

pub returns-then-site_at : goal.returns-then-site_at
returns-then-site_at c =
    let r = piece_row _ _ _ c.piece_at.ensures in
    (c.seek-m.ensures.lo_a, c.if-m-b.true, rw r at (sym (c.site_at.ensures (rw r (c.requires.coord _ c.seek-m.ensures.lo_a c.if-m-b.true))) ∙ c.if-site_at.true))

pub returns-else-m-b : goal.returns-else-m-b
returns-else-m-b c = elim c.else-m-b.branch [
  | else-m-b-via-then-m-b+else-site_at w ↦
      let r = piece_row _ _ _ w.piece_at.ensures in
      finds_not (row c.args.text.now) _ _ _ _ c.requires.rise c.seek-m.ensures w.if-m-b.true
      (rw r at (sym (w.site_at.ensures (rw r (c.requires.coord _ c.seek-m.ensures.lo_a w.if-m-b.true))) ∙ w.if-site_at.false))
  | else-m-b-via-else-m-b w ↦ finds_none (row c.args.text.now) _ _ _ _ c.seek-m.ensures w.if-m-b.false
]
