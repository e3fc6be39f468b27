use Rattle.pieces.proofs.Returns.{columns_odd, columns_read}
use Rattle.pieces.proofs.line_of_columns.Goals as goal

pub returns-then-is_clean : goal.returns-then-is_clean
returns-then-is_clean c = search columns_read

pub returns : goal.returns
returns c = search columns_odd
