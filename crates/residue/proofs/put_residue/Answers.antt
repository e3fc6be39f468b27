use Rattle.residue.proofs.Returns.{writes}
use Rattle.residue.proofs.put_residue.Goals as goal

pub returns : goal.returns
returns c = writes _ _ _ _ _ _ _ _ _ _
    c.put.ensures
    c.put_blanks.ensures
    c.put_one.ensures
    c.put_blanks-2.ensures
    (search)
    c.put_integer.ensures
    c.put_one-2.ensures
