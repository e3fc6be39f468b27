use mathlib.Core.Path.{◌≡◌, refl, sym, ◌∙◌}
use Rattle.table.specs.Table.{one_of}
use native.Mathlib.Omega.{arith}
use Rattle.store.proofs.put_slot.Goals as goal

pub bounds-table-k : goal.bounds-table-k
bounds-table-k c = let at = c.before in let e : one_of at.args.l ≡ 1 = rw (← c.is_coord.ensures, c.if-is_coord.true) refl in omega (arith, e, at.requires)

pub returns-then-is_coord : goal.returns-then-is_coord
returns-then-is_coord c = let e = sym c.is_coord.ensures ∙ c.if-is_coord.true in record {
  value = rw e refl;
  table_after = rw (e, c.line_slot.ensures) refl;
}

pub returns-else-is_coord : goal.returns-else-is_coord
returns-else-is_coord c = let e = sym c.is_coord.ensures ∙ c.if-is_coord.false in record {
  value = rw e (omega arith);
  table_after = rw e refl;
}
