use Rattle.std.specs.Result.{result_unwrap_or}
use Rattle.columns.specs.declared.Column.{Column}
use Rattle.std.specs.Prelude.{Result}
use Prim.Native.Nat.{ℕ}
use mathlib.Core.Path.{◌∙◌, ap}
use Rattle.serials.proofs.Unread.{value_or_none}
use Rattle.serials.proofs.serial_at.Goals as goal

pub returns : goal.returns
returns c = c.unwrap_or.ensures ∙ ap (λ (r : Result ℕ Column). result_unwrap_or r 0) c.read_whole.ensures ∙ value_or_none 5 0 1 99999 _ 6
