use mathlib.Core.Path.{◌≡◌, ◌∙◌, ap}
use lib.ListN.{length}
use borrow.Author.Rules.{rules}
use Rattle.writing.proofs.Copies.{part_put}
use Rattle.writing.proofs.put_line.Goals as goal

pub returns : goal.returns
returns c = let n : length c.args.piece.now ≡ 81 = search rules in rw (← c.copy_from_slice.ensures.after) (part_put _ _ _ 81 c.requires (ap length c.copy_from_slice.ensures.after ∙ n))
