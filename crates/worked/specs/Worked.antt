-- The worked examples of the format: one list, one statement. It is proved in proofs/Worked.antt.
use Rattle.std.specs.Prelude.{◌∷◌, ◌++◌, ◌≡◌, Ok}
use Rattle.ascii.specs.Library.{ℕ, String, List, [], map, true, false, pos, negsuc, bytes}
use Rattle.line.specs.declared.{Record.TheVariants.Coordinate, Record.TheVariants.Model}
use Rattle.line.specs.Lines.{read_line, answer_number, answer_column, record_line}
use Rattle.places.specs.Counts.{no_counts}
use Rattle.gate.specs.Gate.{check_of}
use Rattle.slots.specs.declared.{Slot.Slot}
use Rattle.table.specs.Table.{told, loaded_of, fragments, order_of}
use Rattle.table.specs.Deal.{output_of}
use Rattle.feed.specs.Exact.{whole, half}
use Rattle.feed.specs.Frame.{frame_of}
use Rattle.worked.specs.Texts.{coordinate, occupancy, serial, nitrogen_line, nitrogen_record, nitrogen_with, columns_with, text_of, zeros, shortest, beyond, twice, again, alternates, chain, water7, entry, rest, model1, model2, endmdl, model_line, twofold, inner7, inner_bond, models, one_gone, both_gone, slot_at}

-- the table of the entry just loaded, and with fragment 2 set aside
unfoldable pub loaded : List Slot
loaded = loaded_of entry

unfoldable pub ordered : List Slot
ordered = (order_of entry loaded (record { 0 = 2 }) true).left

-- the number and the line that the check answers for some lines
abbrev pub answered : List String → (ℕ × ℕ)
answered ss = ((check_of (text_of ss)).number, (check_of (text_of ss)).line)

-- the table of the entry with two models, with fragment 1 set aside, and with fragment 3 as well
unfoldable pub first : List Slot
first = (order_of models (loaded_of models) (record { 0 = 1 }) true).left

unfoldable pub first_and_third : List Slot
first_and_third = (order_of models first (record { 0 = 3 }) true).left

-- the number and the column of a line that is read by itself
abbrev pub blamed : List ℕ → (ℕ × ℕ)
blamed l = (answer_number (read_line l), answer_column (read_line l))

-- number, line and column of a text
abbrev pub blamed_in : List ℕ → (ℕ × (ℕ × ℕ))
blamed_in t = ((check_of t).number, ((check_of t).line, (check_of t).column))

pub record Worked : Type 0 where
  -- the ATOM line: x 11281, occupancy 50, number -3
  pub atom : read_line nitrogen_line ≡ Ok (Coordinate false nitrogen_record)
  -- Real(8.3): a good field has no wrong column; of a wrong one it is the first
  pub lowest : coordinate "-999.999" ≡ record { column = 0; value = negsuc 999998 }
  pub highest : coordinate "9999.999" ≡ record { column = 0; value = pos 9999999 }
  pub least_below : coordinate "  -0.001" ≡ record { column = 0; value = negsuc 0 }
  pub zero : coordinate "   0.000" ≡ record { column = 0; value = pos 0 }
  pub minus_zero : (coordinate "  -0.000").column ≡ 1
  -- occupancy
  pub full : occupancy "  1.00" ≡ record { column = 0; value = 100 }
  pub overfull : (occupancy "  1.01").column ≡ 1
  -- serial
  pub last_serial : serial "99999" ≡ record { column = 0; value = 99999 }
  pub zeroth_serial : (serial "    0").column ≡ 1
  -- the ATOM line with a wrong field: its column; of two wrong fields the left one's; a blank column's own
  pub column_x : blamed (nitrogen_with 31 "  -0.000") ≡ (6, 31)
  pub column_zeros : blamed (nitrogen_with 31 " 011.281") ≡ (6, 31)
  pub column_left : blamed (nitrogen_with 31 "11.281  ") ≡ (6, 31)
  pub column_point : blamed (nitrogen_with 31 "    .281") ≡ (6, 31)
  pub column_occupancy : blamed (nitrogen_with 55 "  1.01") ≡ (6, 55)
  pub column_serial : blamed (nitrogen_with 7 "    0") ≡ (6, 7)
  pub column_two : blamed (nitrogen_with 47 "  94.38   0.5") ≡ (6, 47)
  pub column_blank : blamed (nitrogen_with 12 "X") ≡ (6, 12)
  pub column_name : blamed (nitrogen_with 13 " N A") ≡ (6, 13)
  pub column_element : blamed (nitrogen_with 77 "CA") ≡ (6, 77)
  -- CONECT: the atom itself, a blank first partner, a partner right of a blank one
  pub column_itself : blamed (columns_with "CONECT    5    5") ≡ (6, 12)
  pub column_first : blamed (columns_with "CONECT    5         6") ≡ (6, 12)
  pub column_gap : blamed (columns_with "CONECT    5    6         7") ≡ (6, 22)
  -- HELIX of two chains; SHEET: the sense of strand 2, the registration of strand 1 and of strand 2
  pub column_chain : blamed (columns_with "HELIX    1  HA GLY A   86  GLY B   94  1                                   9") ≡ (6, 32)
  pub column_sense : blamed (columns_with "SHEET    2   A 5 THR A 107  ARG A 110  0") ≡ (6, 39)
  pub column_bond : blamed (columns_with "SHEET    1   A 5 THR A 107  ARG A 110  0  N") ≡ (6, 43)
  pub column_partly : blamed (columns_with "SHEET    2   A 5 THR A 107  ARG A 110 -1        X") ≡ (6, 42)
  -- MASTER's fixed number; END
  pub column_fixed : blamed (columns_with "MASTER        0    1    0    0    0    0    0    0    0    0    0    0") ≡ (6, 16)
  pub column_end : blamed (columns_with "END                                                                            X") ≡ (6, 80)
  -- the check has the column of the line that it refuses with 6, and none at a wrong place
  pub column_told : blamed_in (text_of ("HEADER" ∷ []) ++ (nitrogen_with 31 "  -0.000" ++ bytes "\n")) ≡ (6, (2, 31))
  pub column_place : blamed_in (nitrogen_with 31 "  -0.000" ++ bytes "\n") ≡ (5, (1, 0))
  -- an empty text is over before END
  pub empty : check_of [] ≡ record { number = 12; line = 1; column = 0; good = 0; counts = no_counts }
  -- ATOM serials 5, 5
  pub same_serial : ((check_of twice).number ≡ 7) × ((check_of twice).line ≡ 3)
  -- the same atom twice, and with alternate letters blank and A: that text is only over too soon
  pub atom_is_same : ((check_of again).number ≡ 21) × ((check_of again).line ≡ 3)
  pub other_letter : ((check_of alternates).number ≡ 12) × ((check_of alternates).line ≡ 4)
  -- one byte after END
  pub one_byte_more : ((check_of shortest).number ≡ 0) × (((check_of beyond).number ≡ 1) × ((check_of beyond).line ≡ 4))
  -- the chain with its TER, and each water: three fragments
  pub three : fragments entry loaded ≡ 3
  -- fragment 2 set aside: saved are serials 1, 2, 4, and MASTER has 2 coordinates; the tray has 3
  pub granted : order_of entry loaded (record { 0 = 2 }) true ≡ told 0 0 ordered
  pub saved : output_of true entry ordered ≡ rest
  pub tray : output_of false entry ordered ≡ text_of (water7 ∷ [])
  -- MODEL reads and is written back
  pub model : (read_line model_line ≡ Ok (Model (record { number = 1 }))) × (record_line (Model (record { number = 1 })) ≡ model_line)
  -- model numbers are 1, 2, 3 and so on
  pub from_two : answered ("HEADER" ∷ model2 ∷ []) ≡ (22, 2)
  pub one_again : answered ("HEADER" ∷ model1 ∷ endmdl ∷ model1 ∷ []) ≡ (22, 4)
  -- HETATM before the first MODEL, and after an ENDMDL; MASTER within a model; ENDMDL without its MODEL
  pub before_models : answered ("HEADER" ∷ water7 ∷ model1 ∷ []) ≡ (5, 3)
  pub after_model : answered ("HEADER" ∷ model1 ∷ endmdl ∷ water7 ∷ []) ≡ (5, 4)
  pub master_inside : answered ("HEADER" ∷ model1 ∷ zeros ∷ []) ≡ (5, 3)
  pub no_model : answered ("HEADER" ∷ endmdl ∷ []) ≡ (5, 2)
  -- a run that is open at ENDMDL
  pub open_run : answered ("HEADER" ∷ model1 ∷ chain ∷ endmdl ∷ []) ≡ (8, 4)
  -- the same atom with the same serial in two models
  pub in_both : (check_of twofold).number ≡ 0
  -- two waters in each of two models: their slots' models, and four fragments
  pub slot_models : map (λ (s : Slot). s.model) (loaded_of models) ≡ 1 ∷ 1 ∷ 2 ∷ 2 ∷ []
  pub four : fragments models (loaded_of models) ≡ 4
  -- fragment 1 set aside: CONECT stays, for serial 1 is "in" in model 2; MODEL and ENDMDL are in the tray as well
  pub first_saved : output_of true models first ≡ one_gone
  pub first_tray : output_of false models first ≡ text_of (model1 ∷ inner7 ∷ endmdl ∷ model2 ∷ endmdl ∷ [])
  -- fragment 3 as well: CONECT goes to the tray
  pub third_saved : output_of true models first_and_third ≡ both_gone
  pub third_tray : output_of false models first_and_third ≡ text_of (model1 ∷ inner7 ∷ endmdl ∷ model2 ∷ inner7 ∷ endmdl ∷ inner_bond ∷ [])
  -- the frame of (-1, 0, 5) and (2, 0, 5), in thousandths: its middle is (0.5, 0, 5)
  pub framed : frame_of (slot_at (negsuc 0) (pos 0) (pos 5) ∷ slot_at (pos 2) (pos 0) (pos 5) ∷ [])
      ≡ Ok (record {
        lx = whole (negsuc 0);
        ly = whole (pos 0);
        lz = whole (pos 5);
        hx = whole (pos 2);
        hy = whole (pos 0);
        hz = whole (pos 5);
        mx = half (pos 1);
        my = whole (pos 0);
        mz = whole (pos 5);
      })
