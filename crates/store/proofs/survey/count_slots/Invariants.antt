use mathlib.Core.Path.{◌≡◌}
use Prim.Native.Nat.{◌+◌, ◌≤◌}
use lib.ListN.{length}
use Rattle.gate.proofs.Sofar.{Sofar}
use Rattle.trail.specs.Trail.{Watched}
use Rattle.slots.specs.Slots.{no_model}
use Rattle.table.specs.Table.{lines_from, slots_of, loaded_of}
use Rattle.store.proofs.survey.count_slots.Given as goal

abbrev pub invariant-loop-i : goal.invariant-loop-i
invariant-loop-i l = Sofar l.text l.i l.c.past l.c.state × (l.k + length (slots_of no_model (lines_from l.text l.i)) ≡ length (loaded_of l.text)) × (l.k ≤ l.i) × Watched l.text l.c.past.block l.c.watch
