use mathlib.Core.Path.{◌≡◌, refl, ◌∙◌, ap}
use mathlib.Core.Bool.{Bool}
use lib.Dec.{eqb}
use Rattle.ascii.specs.Tests.{both}
use Rattle.ascii.proofs.Bools.{and_both}
use Rattle.std.specs.Prelude.{Option, Some, None}
use Rattle.std.specs.Option.{option_eq}
use Rattle.places.specs.declared.Count.{Count}
use Rattle.places.specs.declared.Count.TheVariants.{Remark, Het, Helix, Sheet, Xform, Coord, Ter, Conect, Seq}
use Rattle.places.specs.contracts.CountPartialEq.TheImpl.{eq-value}
use Rattle.places.specs.Counts.{count_number}
use Rattle.serials.proofs.Rows.{site_told}
use Rattle.serials.proofs.site_at.Goals as goal

-- the count of coordinates is the one with the number 6
is_coordinates : (o : Option Count) → option_eq eq-value.it o (Some Coord) ≡ eqb (count_number o) 6
is_coordinates None = refl
is_coordinates (Some Remark) = refl
is_coordinates (Some Het) = refl
is_coordinates (Some Helix) = refl
is_coordinates (Some Sheet) = refl
is_coordinates (Some Xform) = refl
is_coordinates (Some Coord) = refl
is_coordinates (Some Ter) = refl
is_coordinates (Some Conect) = refl
is_coordinates (Some Seq) = refl

pub returns : goal.returns
returns c = site_told c.args.piece.now _ _ _ _ _ c.kind_of-k.ensures c.count_of.ensures c.serial_at.ensures
    (and_both _ _ ∙ ap (λ (b : Bool). both b (eqb c.serial_at.result.0 c.args.x.0)) (c.eq.ensures ∙ is_coordinates c.count_of.result))
