-- Counts that MASTER's five columns hold.
use Rattle.std.specs.Prelude.{◌≤◌}
use Rattle.master.specs.declared.{Tally.Tally}

pub record FiveDigits (t : Tally) : Type 0 where
  pub remark : t.remark ≤ 99999
  pub het : t.het ≤ 99999
  pub helix : t.helix ≤ 99999
  pub sheet : t.sheet ≤ 99999
  pub xform : t.xform ≤ 99999
  pub coord : t.coord ≤ 99999
  pub ter : t.ter ≤ 99999
  pub conect : t.conect ≤ 99999
  pub seq : t.seq ≤ 99999
