use mathlib.Core.Path.{◌∙◌}
use Rattle.answers.proofs.Rewriting.{rewrite_read}
use Rattle.station.proofs.station_rewrite_line.Goals as goal

pub returns-in-Ok : goal.returns-in-Ok
returns-in-Ok c = rewrite_read _ _ _ _ _ _ c.read_line-a.ensures c.in-Ok.is (c.number_of.ensures ∙ c.write_record.ensures.number) c.write_record.ensures.line_after
