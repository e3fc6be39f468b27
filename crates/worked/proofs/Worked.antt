-- The worked examples hold: each computes.
-- Assumes nothing.
use mathlib.Core.Path.{refl}
use Rattle.ascii.specs.Tests.{both, either, between, same}
use Rattle.columns.specs.Columns.{first_of, blank_at, gap_of, clean_at, blame, blamed_of, leftmost, blanks}
use Rattle.numbers.specs.Number.{ends_digit, lead_of, further_of, grown_of, number_of, leader, render}
use Rattle.fields.specs.Field.{signed_of, is_neg, whole_in, integer_in}
use Rattle.elements.specs.Elements.{elements, index_of, atomic_of}
use Rattle.words.specs.Words.{word_at}
use Rattle.kinds.specs.Kinds.{kind_named, kind_of}
use Rattle.residue.specs.Residues.{residue_columns, same_residue}
use Rattle.coordinate.specs.Atoms.{position_columns, identity_columns, measure_columns, species_columns, leads_element, atom_columns}
use Rattle.ter.specs.Ters.{ter_columns}
use Rattle.helix.specs.Helices.{extent_columns, comment_columns, helix_columns}
use Rattle.sheet.specs.Sheets.{is_sense, sense_fits, bond_columns, registration_columns, strand_columns, sheet_columns}
use Rattle.conect.specs.Conects.{partner_columns, differs, unbroken, conect_columns, serials_columns, partners_columns}
use Rattle.master.specs.Masters.{notes_columns, shape_columns, atoms_columns, master_columns}
use Rattle.model.specs.Models.{model_columns}
use Rattle.line.specs.Lines.{judged, crystal_read, reading_of, read_line}
use Rattle.pieces.specs.Pieces.{columns_of, line_of}
use Rattle.places.specs.Places.{place_bad, fence_bad}
use Rattle.places.specs.Counts.{raised, same_counts}
use Rattle.rules.specs.Rules.{site_bad, close_bad, site_next, unfinished, typed_bad, judge_of, start_of, carried_next, typed_next, next_of}
use Rattle.rows.specs.Text.{cut_at_most, cut}
use Rattle.serials.specs.Known.{some_of, front}
use Rattle.twins.specs.Twins.{same_atom}
use Rattle.gate.specs.Gate.{refused_of, finish_of, check_lines, check_of}
use Rattle.slots.specs.Slots.{same_position, same_measures, same_names, same_slot, with_mark}
use Rattle.fragments.specs.Fragments.{joins, step_tail, tail_of, mark_of, marked}
use Rattle.table.specs.Table.{lines_from, slots_of, fits, fits_from, belongs, table_of, order_of}
use Rattle.table.specs.Orders.{orders_of}
use Rattle.table.specs.Deal.{is_in, stands_in, stays, counted, master_piece, written, share, dealt, output_of}
use Rattle.feed.specs.Exact.{exactly}
use Rattle.feed.specs.Feed.{is_drawn}
use Rattle.feed.specs.Frame.{lower, higher, widened, taken_in, bounds_from, framed_of}
use Rattle.worked.specs.Texts.{nitrogen_line, nitrogen_record, shortest, beyond, twice, again, alternates, entry, rest, model_line, twofold, models, one_gone, both_gone}
use Rattle.worked.specs.Worked.{Worked, loaded, ordered, first, first_and_third}

pub worked : Worked
unfolding framed_of nitrogen_line nitrogen_record shortest beyond twice again alternates entry rest model_line twofold models one_gone both_gone loaded ordered first first_and_third both either between same first_of blank_at gap_of clean_at blame blamed_of leftmost blanks ends_digit lead_of further_of grown_of number_of leader render signed_of is_neg whole_in integer_in elements index_of atomic_of word_at kind_named kind_of residue_columns position_columns identity_columns measure_columns species_columns leads_element atom_columns ter_columns extent_columns comment_columns helix_columns is_sense sense_fits bond_columns registration_columns strand_columns sheet_columns partner_columns differs unbroken conect_columns serials_columns partners_columns notes_columns shape_columns atoms_columns master_columns model_columns judged crystal_read reading_of read_line columns_of line_of place_bad fence_bad raised same_counts same_residue site_bad close_bad site_next unfinished typed_bad judge_of start_of carried_next typed_next next_of cut_at_most cut some_of front same_atom refused_of finish_of check_lines check_of same_position same_measures same_names same_slot with_mark joins step_tail tail_of mark_of marked lines_from slots_of fits fits_from belongs table_of order_of orders_of is_in stands_in stays counted master_piece written share dealt output_of bounds_from taken_in is_drawn widened lower higher exactly
worked =
    record {
      atom = refl;
      lowest = refl;
      highest = refl;
      least_below = refl;
      zero = refl;
      minus_zero = refl;
      full = refl;
      overfull = refl;
      last_serial = refl;
      zeroth_serial = refl;
      column_x = refl;
      column_zeros = refl;
      column_left = refl;
      column_point = refl;
      column_occupancy = refl;
      column_serial = refl;
      column_two = refl;
      column_blank = refl;
      column_name = refl;
      column_element = refl;
      column_itself = refl;
      column_first = refl;
      column_gap = refl;
      column_chain = refl;
      column_sense = refl;
      column_bond = refl;
      column_partly = refl;
      column_fixed = refl;
      column_end = refl;
      column_told = refl;
      column_place = refl;
      empty = refl;
      same_serial = (refl, refl);
      atom_is_same = (refl, refl);
      other_letter = (refl, refl);
      one_byte_more = (refl, (refl, refl));
      three = refl;
      granted = refl;
      saved = refl;
      tray = refl;
      model = (refl, refl);
      from_two = refl;
      one_again = refl;
      before_models = refl;
      after_model = refl;
      master_inside = refl;
      no_model = refl;
      open_run = refl;
      in_both = refl;
      slot_models = refl;
      four = refl;
      first_saved = refl;
      first_tray = refl;
      third_saved = refl;
      third_tray = refl;
      framed = refl;
    }
