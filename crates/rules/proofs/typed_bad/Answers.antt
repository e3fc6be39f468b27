use Rattle.rules.proofs.Laws.{typed_tests}
use Rattle.rules.proofs.typed_bad.Goals as goal

pub returns-then-misplaced : goal.returns-then-misplaced
returns-then-misplaced c = rw (typed_tests, ← c.record_kind.ensures, ← c.misplaced.ensures, c.if-misplaced.true)

pub returns-then-model_bad : goal.returns-then-model_bad
returns-then-model_bad c = rw (typed_tests, ← c.record_kind.ensures, ← c.misplaced.ensures, c.if-misplaced.false, ← c.fence_of.ensures, ← c.model_bad.ensures, c.if-model_bad.true)

pub returns-then-serial_bad : goal.returns-then-serial_bad
returns-then-serial_bad c = rw (typed_tests, ← c.record_kind.ensures, ← c.misplaced.ensures, c.if-misplaced.false, ← c.fence_of.ensures, ← c.model_bad.ensures, c.if-model_bad.false, ← c.spot_of-spot.ensures, ← c.serial_bad.ensures, c.if-serial_bad.true)

pub returns-then-run_bad : goal.returns-then-run_bad
returns-then-run_bad c = rw (typed_tests, ← c.record_kind.ensures, ← c.misplaced.ensures, c.if-misplaced.false, ← c.fence_of.ensures, ← c.model_bad.ensures, c.if-model_bad.false, ← c.spot_of-spot.ensures, ← c.serial_bad.ensures, c.if-serial_bad.false, ← c.run_bad.ensures, c.if-run_bad.true)

pub returns-then-look : goal.returns-then-look
returns-then-look c = rw (typed_tests, ← c.record_kind.ensures, ← c.misplaced.ensures, c.if-misplaced.false, ← c.fence_of.ensures, ← c.model_bad.ensures, c.if-model_bad.false, ← c.spot_of-spot.ensures, ← c.serial_bad.ensures, c.if-serial_bad.false, ← c.run_bad.ensures, c.if-run_bad.false, c.if-look.true)

pub returns-then-bond_bad : goal.returns-then-bond_bad
returns-then-bond_bad c = rw (typed_tests, ← c.record_kind.ensures, ← c.misplaced.ensures, c.if-misplaced.false, ← c.fence_of.ensures, ← c.model_bad.ensures, c.if-model_bad.false, ← c.spot_of-spot.ensures, ← c.serial_bad.ensures, c.if-serial_bad.false, ← c.run_bad.ensures, c.if-run_bad.false, c.if-look.false, ← c.bond_of.ensures, ← c.bond_bad.ensures, c.if-bond_bad.true)

pub returns-then-fold_bad : goal.returns-then-fold_bad
returns-then-fold_bad c = rw (typed_tests, ← c.record_kind.ensures, ← c.misplaced.ensures, c.if-misplaced.false, ← c.fence_of.ensures, ← c.model_bad.ensures, c.if-model_bad.false, ← c.spot_of-spot.ensures, ← c.serial_bad.ensures, c.if-serial_bad.false, ← c.run_bad.ensures, c.if-run_bad.false, c.if-look.false, ← c.bond_of.ensures, ← c.bond_bad.ensures, c.if-bond_bad.false, ← c.fold_of.ensures, ← c.fold_bad.ensures, c.if-fold_bad.true)

pub returns-then-count_bad : goal.returns-then-count_bad
returns-then-count_bad c = rw (typed_tests, ← c.record_kind.ensures, ← c.misplaced.ensures, c.if-misplaced.false, ← c.fence_of.ensures, ← c.model_bad.ensures, c.if-model_bad.false, ← c.spot_of-spot.ensures, ← c.serial_bad.ensures, c.if-serial_bad.false, ← c.run_bad.ensures, c.if-run_bad.false, c.if-look.false, ← c.bond_of.ensures, ← c.bond_bad.ensures, c.if-bond_bad.false, ← c.fold_of.ensures, ← c.fold_bad.ensures, c.if-fold_bad.false, ← c.total_of.ensures, ← c.count_bad.ensures, c.if-count_bad.true)

pub returns : goal.returns
returns c = rw (typed_tests, ← c.record_kind.ensures, ← c.misplaced.ensures, c.if-misplaced.false, ← c.fence_of.ensures, ← c.model_bad.ensures, c.if-model_bad.false, ← c.spot_of-spot.ensures, ← c.serial_bad.ensures, c.if-serial_bad.false, ← c.run_bad.ensures, c.if-run_bad.false, c.if-look.false, ← c.bond_of.ensures, ← c.bond_bad.ensures, c.if-bond_bad.false, ← c.fold_of.ensures, ← c.fold_bad.ensures, c.if-fold_bad.false, ← c.total_of.ensures, ← c.count_bad.ensures, c.if-count_bad.false)
