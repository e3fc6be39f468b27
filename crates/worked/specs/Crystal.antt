-- The worked examples of the crystal frame. They are proved in proofs/Crystal.antt.
use Rattle.std.specs.Prelude.{◌∷◌, ◌≡◌, Ok, Err}
use Rattle.ascii.specs.Library.{ℕ, List, [], ℤ, pos, negsuc, bytes}
use Rattle.coordinate.specs.declared.{Position.Position}
use Rattle.cell.specs.declared.{Cell.Cell}
use Rattle.transform.specs.declared.{Transform.Transform}
use Rattle.line.specs.declared.{Record.TheVariants.Cell as CellRecord}
use Rattle.line.specs.Lines.{read_line}
use Rattle.fractional.specs.Place.{billionths, nearest, fractional_of}
use Rattle.worked.specs.Texts.{columns_with, text_of, shortest}
use Rattle.worked.specs.Worked.{blamed}

-- 52.000, 58.600, 61.900; three right angles; P 21 21 21; 8
unfoldable pub cell_record : Cell
cell_record =
    record {
      edges = record { a = 52000; b = 58600; c = 61900 };
      angles = record { alpha = 9000; beta = 9000; gamma = 9000 };
      group = record { a = bytes "P 21"; b = bytes " 21 "; c = bytes "21 " };
      z = 8;
    }

-- an entry with SCALE lines
unfoldable pub scaled : List ℕ
scaled =
    text_of
    ("HEADER" ∷ "SCALE1      0.019231  0.000000  0.000000        0.00000" ∷ "SCALE2      0.000000  0.017065  0.000000        0.50000" ∷
    "SCALE3      0.000000  0.000000 -0.016155       -0.00001" ∷ "MASTER        0    0    0    0    0    0    0    3    0    0    0    0" ∷ "END" ∷ [])

abbrev pub at : ℤ → ℤ → ℤ → Position
at x y z = record { x = x; y = y; z = z }

abbrev pub row : ℤ → ℤ → ℤ → ℤ → Transform
row x y z shift = record { by = record { x = x; y = y; z = z }; shift = shift }

pub record Crystal : Type 0 where
  -- the cell of a line, and a wrong angle; 180 is none; column 55 is blank
  pub cell : read_line (columns_with "CRYST1   52.000   58.600   61.900  90.00  90.00  90.00 P 21 21 21    8") ≡ Ok (CellRecord cell_record)
  pub angle : blamed (columns_with "CRYST1   52.000   58.600   61.900 180.00  90.00  90.00 P 21 21 21    8") ≡ (6, 34)
  pub wide : blamed (columns_with "CRYST1   52.000   58.600   61.900 179.99  90.00  90.00 P 21 21 21    8") ≡ (0, 0)
  pub blank : blamed (columns_with "CRYST1   52.000   58.600   61.900  90.00  90.00  90.00XP 21 21 21    8") ≡ (6, 55)
  -- the fractional place of (11.281, -0.500, 0.007)
  pub place : fractional_of scaled (at (pos 11281) (negsuc 499) (pos 7))
      ≡ Ok (record { exact = record { x = pos 216944911; y = pos 491467500; z = negsuc 123084 }; near = record { x = pos 21694; y = pos 49147; z = negsuc 11 } })
  -- a coordinate out of its range; an entry without SCALE lines, whatever the coordinates
  pub outside : fractional_of scaled (at (pos 10000000) (pos 0) (pos 0)) ≡ Err 33
  pub none : fractional_of shortest (at (pos 10000000) (pos 0) (pos 0)) ≡ Err 29
  -- halves go away from zero
  pub half : nearest (pos 5000) ≡ pos 1
  pub below_half : nearest (pos 4999) ≡ pos 0
  pub minus_half : nearest (negsuc 4999) ≡ negsuc 0
  pub above_minus_half : nearest (negsuc 4998) ≡ pos 0
  -- the farthest places by the numbers of a line
  pub highest : billionths (row (pos 999999999) (pos 999999999) (pos 999999999) (pos 999999999)) (at (pos 9999999) (pos 9999999) (pos 9999999)) ≡ pos 30009996969990003
  pub lowest : billionths (row (negsuc 99999998) (negsuc 99999998) (negsuc 99999998) (negsuc 99999998)) (at (pos 9999999) (pos 9999999) (pos 9999999)) ≡ negsuc 3000999669990002
