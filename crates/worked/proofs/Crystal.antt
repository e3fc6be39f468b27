-- The worked examples of the crystal frame hold: each computes.
-- Assumes nothing.
use mathlib.Core.Path.{refl}
use Rattle.ascii.specs.Tests.{both, either, between, same}
use Rattle.columns.specs.Columns.{first_of, blank_at, gap_of, clean_at, blame, blamed_of, leftmost, blanks}
use Rattle.numbers.specs.Number.{ends_digit, lead_of, further_of, grown_of, number_of, leader, render}
use Rattle.fields.specs.Field.{signed_of, is_neg, whole_in, integer_in, spans_of}
use Rattle.words.specs.Words.{word_at}
use Rattle.kinds.specs.Kinds.{kind_named, kind_of}
use Rattle.coordinate.specs.Atoms.{position_columns}
use Rattle.master.specs.Masters.{notes_columns, shape_columns, atoms_columns, master_columns}
use Rattle.cell.specs.Cells.{edges_columns, angles_columns, group_columns, cell_columns}
use Rattle.transform.specs.Transforms.{coefficients_columns, transform_columns}
use Rattle.line.specs.Lines.{judged, crystal_read, reading_of, read_line}
use Rattle.pieces.specs.Pieces.{columns_of, line_of}
use Rattle.places.specs.Places.{place_bad, fence_bad}
use Rattle.places.specs.Counts.{raised, same_counts}
use Rattle.rules.specs.Rules.{unfinished, typed_bad, judge_of, start_of, carried_next, typed_next, next_of}
use Rattle.rows.specs.Text.{cut_at_most, cut, piece_at}
use Rattle.serials.specs.Known.{some_of, front}
use Rattle.gate.specs.Gate.{refused_of, finish_of, check_lines, check_of}
use Rattle.fractional.specs.Scale.{scale_from, scale_of}
use Rattle.fractional.specs.Place.{billionths, nearest, place_of, fractional_of}
use Rattle.worked.specs.Texts.{shortest}
use Rattle.worked.specs.Crystal.{Crystal, cell_record, scaled}

pub crystal : Crystal
unfolding cell_record scaled shortest both either between same first_of blank_at gap_of clean_at blame blamed_of leftmost blanks ends_digit lead_of further_of grown_of number_of leader render signed_of is_neg whole_in integer_in spans_of word_at kind_named kind_of position_columns notes_columns shape_columns atoms_columns master_columns edges_columns angles_columns group_columns cell_columns coefficients_columns transform_columns judged crystal_read reading_of read_line columns_of line_of place_bad fence_bad raised same_counts unfinished typed_bad judge_of start_of carried_next typed_next next_of cut_at_most cut piece_at some_of front refused_of finish_of check_lines check_of scale_from scale_of billionths nearest place_of fractional_of
crystal =
    record {
      cell = refl;
      angle = refl;
      wide = refl;
      blank = refl;
      place = refl;
      outside = refl;
      none = refl;
      half = refl;
      below_half = refl;
      minus_half = refl;
      above_minus_half = refl;
      highest = refl;
      lowest = refl;
    }
