use Rattle.ascii.proofs.Bools.{and_both, both_assoc, both_true}
use Rattle.conect.specs.Conects.{conect_columns, serials_columns, partners_columns}
use Rattle.conect.proofs.ConectLayout.is_good.Goals as goal

pub returns : goal.returns
unfolding conect_columns serials_columns partners_columns
returns c =
    simp (
      and_both,
      both_assoc,
      both_true,
      c.ranged.ensures,
      c.ranged-2.ensures,
      c.partner_is_good.ensures,
      c.partner_is_good-2.ensures,
      c.partner_is_good-3.ensures,
      c.other.ensures,
      c.other-2.ensures,
      c.other-3.ensures,
      c.in_turn.ensures,
      c.other-4.ensures,
      c.in_turn-2.ensures,
    )
