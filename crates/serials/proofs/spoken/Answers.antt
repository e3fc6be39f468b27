use Rattle.rows.specs.Text.{row}
use Rattle.serials.proofs.Finding.{found_named, rest_named}
use Rattle.serials.proofs.spoken.Goals as goal

pub returns-in-Some : goal.returns-in-Some
returns-in-Some c = λ n s B E. found_named (row c.args.text.now) n c.args.p.block s _ _ B (rw c.in-Some.is at c.find.ensures)

pub returns-in-None : goal.returns-in-None
returns-in-None c = λ n s B E. rest_named (row c.args.text.now) n c.args.p.block c.args.p.earlier s c.args.x.0 c.stood.result B E (rw c.in-None.is at c.find.ensures) c.stood.ensures
