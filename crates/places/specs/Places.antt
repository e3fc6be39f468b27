-- The order of the lines: each kind has its place, a column of the table of kinds, and places never go back; models stand between MODEL and ENDMDL.
use Rattle.ascii.specs.Library.{ℕ, Bool, false, not, leb, eqb, pick, both, either}
use Rattle.kinds.specs.declared.{Kind.Kind}
use Rattle.kinds.specs.Kinds.{row_of, is}
use Rattle.places.specs.declared.{Models.Models}
use Rattle.kinds.specs.declared.Kind.TheVariants as kind

-- the places of the coordinate lines, and of END
abbrev pub coordinate_place : ℕ
coordinate_place = 18

abbrev pub end_place : ℕ
end_place = 21

-- 5: wrong place or repeated
unfoldable pub place_bad : ℕ → Kind → Bool
place_bad last k = not (both (leb (row_of k).low last) (leb last (row_of k).high))

-- before the first MODEL line
abbrev pub no_models : Models
no_models = record { inside = false; past = false; number = 0 }

-- 5: MODEL within a model, or after coordinate lines that stand in none; ENDMDL without its MODEL; a coordinate line outside once a model is
-- past; another kind of line before the ENDMDL
unfoldable pub fence_bad : ℕ → Models → Kind → Bool
fence_bad last m k =
    pick (is kind.Model k) (either m.inside (both (eqb last coordinate_place) (not m.past)))
    (pick (is kind.Endmdl k) (not m.inside)
    (pick (row_of k).slot (both m.past (not m.inside))
    m.inside))
