use Rattle.slots.proofs.Returns.{reading_small, slot_read, slot_none, slot_odd, slot_short}
use Rattle.slots.proofs.slot_of_line.Goals as goal

pub fill_in-requires : goal.fill_in-requires
fill_in-requires c = search reading_small

pub returns-in_default : goal.returns-in_default
returns-in_default c = slot_short _ c.in_default.ensures.cases

pub returns-then-not-is_clean : goal.returns-then-not-is_clean
returns-then-not-is_clean c = slot_odd _ _ c.in-Some.ensures.cases.long c.in-Some.ensures.cases.same _ c.is_clean.ensures c.if-not-is_clean.true

pub returns-then-not-has_slot : goal.returns-then-not-has_slot
returns-then-not-has_slot c = slot_none _ _ c.in-Some.ensures.cases.long c.in-Some.ensures.cases.same _ c.is_clean.ensures c.if-not-is_clean.false _ c.kind_of-k.ensures _ c.has_slot.ensures c.if-not-has_slot.true

pub returns : goal.returns
returns c = slot_read _ _ c.in-Some.ensures.cases.long c.in-Some.ensures.cases.same _ c.is_clean.ensures c.if-not-is_clean.false _ c.kind_of-k.ensures _ c.has_slot.ensures _ _ c.if-not-has_slot.false c.read_kind.ensures c.fill_in.ensures
