use Rattle.ascii.proofs.Bools.{and_both, both_assoc, both_true, true_both}
use Rattle.master.specs.Masters.{notes_columns, shape_columns, atoms_columns, master_columns}
use Rattle.master.proofs.TallyLayout.is_good.Goals as goal

pub returns : goal.returns
unfolding notes_columns shape_columns atoms_columns master_columns
returns c = simp (
  and_both,
  both_assoc,
  both_true,
  true_both,
  c.ranged.ensures,
  c.ranged-2.ensures,
  c.ranged-3.ensures,
  c.ranged-4.ensures,
  c.ranged-5.ensures,
  c.ranged-6.ensures,
  c.ranged-7.ensures,
  c.ranged-8.ensures,
  c.ranged-9.ensures,
)
