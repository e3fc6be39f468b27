-- Further examples: orders that are refused, a fragment put back, a bond that goes with its atom, tables of another text, nothing to frame.
-- Assumes nothing.
use mathlib.Core.List.{List, [], ◌∷◌}
use mathlib.Core.Bool.{true, false}
use mathlib.Core.Path.{◌≡◌, refl}
use lib.ListN.{drop, get_or}
use Rattle.std.specs.Prelude.{Err}
use Rattle.ascii.specs.Tests.{both, either, between, same}
use Rattle.columns.specs.Columns.{first_of, blank_at, gap_of, clean_at, blame, blamed_of, leftmost, blanks}
use Rattle.numbers.specs.Number.{ends_digit, lead_of, further_of, grown_of, number_of, leader, render}
use Rattle.fields.specs.Field.{signed_of, is_neg, whole_in, integer_in}
use Rattle.elements.specs.Elements.{elements, index_of, atomic_of}
use Rattle.words.specs.Words.{word_at}
use Rattle.kinds.specs.Kinds.{kind_named, kind_of}
use Rattle.residue.specs.Residues.{residue_columns, same_residue}
use Rattle.coordinate.specs.Atoms.{position_columns, identity_columns, measure_columns, species_columns, leads_element, atom_columns}
use Rattle.ter.specs.Ters.{ter_columns}
use Rattle.conect.specs.Conects.{partner_columns, differs, unbroken, conect_columns, serials_columns, partners_columns}
use Rattle.master.specs.Masters.{notes_columns, shape_columns, atoms_columns, master_columns}
use Rattle.line.specs.Lines.{judged, crystal_read, reading_of, read_line}
use Rattle.pieces.specs.Pieces.{columns_of, line_of}
use Rattle.places.specs.Places.{place_bad, fence_bad}
use Rattle.places.specs.Counts.{raised, same_counts}
use Rattle.rules.specs.Rules.{site_bad, close_bad, site_next, unfinished, typed_bad, judge_of, start_of, carried_next, typed_next, next_of}
use Rattle.rows.specs.Text.{cut_at_most, cut}
use Rattle.serials.specs.Known.{some_of, front}
use Rattle.twins.specs.Twins.{same_atom}
use Rattle.gate.specs.Gate.{refused_of, finish_of, check_lines, check_of}
use Rattle.slots.specs.Slots.{mark_aside, no_slot, same_position, same_measures, same_names, same_slot, with_mark}
use Rattle.fragments.specs.Fragments.{joins, step_tail, tail_of, mark_of, marked}
use Rattle.table.specs.Table.{loaded_of, lines_from, slots_of, fits, fits_from, belongs, table_of, order_of}
use Rattle.table.specs.Orders.{order, orders_of}
use Rattle.table.specs.Deal.{is_in, stands_in, stays, counted, master_piece, written, share, dealt, output_of}
use Rattle.feed.specs.Frame.{bounds_from, framed_of, frame_of}
use Rattle.slots.specs.declared.Slot.{Slot}
use Rattle.worked.specs.Texts.{text_of, entry, rest, water7, bond, bonded, single}
use Rattle.worked.specs.Worked.{loaded, ordered}

-- the first of two waters set aside
unfoldable pub parted : List Slot
parted = (order_of bonded (loaded_of bonded) (record { 0 = 1 }) true).left

pub record Further : Type 0 where
  -- put back, the entry is as it was
  pub back : output_of true entry (orders_of entry loaded (order (record { 0 = 2 }) true ∷ order (record { 0 = 2 }) false ∷ [])) ≡ entry
  -- there is no fourth fragment, and the second is aside already
  pub none : (order_of entry loaded (record { 0 = 4 }) true).number ≡ 15
  pub already : (order_of entry ordered (record { 0 = 2 }) true).number ≡ 16
  -- the bond goes with its atom
  pub parted_saved : output_of true bonded parted ≡ single
  pub parted_tray : output_of false bonded parted ≡ text_of (water7 ∷ bond ∷ [])
  -- the table of another text, and one in which the chain's atom is aside and its TER is not
  pub foreign : table_of bonded loaded ≡ 18
  pub torn : table_of entry (with_mark (get_or loaded 0 no_slot) mark_aside ∷ drop 1 loaded) ≡ 18
  -- nothing to frame
  pub no_atom : frame_of [] ≡ Err 19

pub further : Further
unfolding framed_of parted bonded single entry rest loaded ordered both either between same first_of blank_at gap_of clean_at blame blamed_of leftmost blanks ends_digit lead_of further_of grown_of number_of leader render signed_of is_neg whole_in integer_in elements index_of atomic_of word_at kind_named kind_of residue_columns position_columns identity_columns measure_columns species_columns leads_element atom_columns ter_columns partner_columns differs unbroken conect_columns serials_columns partners_columns notes_columns shape_columns atoms_columns master_columns judged crystal_read reading_of read_line columns_of line_of place_bad fence_bad raised same_counts same_residue site_bad close_bad site_next unfinished typed_bad judge_of start_of carried_next typed_next next_of cut_at_most cut some_of front same_atom refused_of finish_of check_lines check_of same_position same_measures same_names same_slot with_mark joins step_tail tail_of mark_of marked lines_from slots_of fits fits_from belongs table_of order_of orders_of is_in stands_in stays counted master_piece written share dealt output_of bounds_from
further =
    record {
      back = refl;
      none = refl;
      already = refl;
      parted_saved = refl;
      parted_tray = refl;
      foreign = refl;
      torn = refl;
      no_atom = refl;
    }
