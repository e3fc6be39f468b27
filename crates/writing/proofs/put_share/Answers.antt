use mathlib.Core.Path.{sym, ◌∙◌}
use borrow.Author.Rules.{rules}
use Rattle.table.proofs.Master.{master_81}
use Rattle.writing.proofs.Shares.{gives_master, gives_line, gives_none, room, placed, untouched}
use Rattle.writing.proofs.put_share.Goals as goal

pub put_master-requires : goal.put_master-requires
put_master-requires c = record {
  five_digits = c.requires.five_digits (sym c.is_master.ensures ∙ c.if-is_master.true);
  at_in_bounds = room _ _ _ _ (gives_master _ _ _ _ _ _ c.is_due.ensures c.requires.l_value c.if-is_due.true _ c.is_master.ensures c.if-is_master.true) (master_81 _) c.requires.at_in_bounds;
}

pub returns-then-is_master : goal.returns-then-is_master
returns-then-is_master c = placed _ _ _ _ _ (gives_master _ _ _ _ _ _ c.is_due.ensures c.requires.l_value c.if-is_due.true _ c.is_master.ensures c.if-is_master.true) (master_81 _) c.put_master.ensures

pub put_line-requires : goal.put_line-requires
put_line-requires c = room _ _ _ _ (gives_line _ _ _ _ _ _ c.is_due.ensures c.requires.l_value c.if-is_due.true _ c.is_master.ensures c.if-is_master.false) (search rules) c.requires.at_in_bounds

pub returns-then-is_due : goal.returns-then-is_due
returns-then-is_due c = placed _ _ _ _ _ (gives_line _ _ _ _ _ _ c.is_due.ensures c.requires.l_value c.if-is_due.true _ c.is_master.ensures c.if-is_master.false) (search rules) c.put_line.ensures

pub returns : goal.returns
returns c = untouched _ _ _ (gives_none _ _ _ _ _ _ c.is_due.ensures c.requires.l_value c.if-is_due.false)
