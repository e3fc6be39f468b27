-- Counts that one more line cannot carry past a number of 64 bits.
use Rattle.std.specs.Prelude.{◌<◌}
use Rattle.places.specs.declared.{Counts.Counts}

pub record Room (c : Counts) : Type 0 where
  pub remark : c.remark < 9223372036854775808
  pub het : c.het < 9223372036854775808
  pub helix : c.helix < 9223372036854775808
  pub sheet : c.sheet < 9223372036854775808
  pub xform : c.xform < 9223372036854775808
  pub coord : c.coord < 9223372036854775808
  pub ter : c.ter < 9223372036854775808
  pub conect : c.conect < 9223372036854775808
  pub seq : c.seq < 9223372036854775808
