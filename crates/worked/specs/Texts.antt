-- The lines, texts and slots of the worked examples.
use Rattle.std.specs.Prelude.{◌+◌, ◌-◌, ◌∷◌, ◌++◌}
use Rattle.ascii.specs.Library.{ℕ, String, List, [], ℤ, pos, negsuc, length, take, drop, byte, bytes}
use Rattle.columns.specs.Columns.{blanks}
use Rattle.fields.specs.Field.{Whole, Signed}
use Rattle.fields.specs.Field.{ranged_number, signed_number}
use Rattle.coordinate.specs.declared.{Atom.Atom}
use Rattle.slots.specs.declared.{Slot.Slot}
use Rattle.slots.specs.Slots.{atom_kind, mark_in, slot_with, residue_of, no_model, no_slot}

-- ---- fields by themselves
-- Real(8.3), in thousandths
abbrev pub coordinate : String → Signed
coordinate t = signed_number 8 4 (bytes t) 0

-- Real(6.2) from 0.00 to 1.00, in hundredths
abbrev pub occupancy : String → Whole
occupancy t = ranged_number 6 3 0 100 (bytes t) 0

abbrev pub serial : String → Whole
serial t = ranged_number 5 0 1 99999 (bytes t) 0

-- ---- one line
unfoldable pub nitrogen_line : List ℕ
nitrogen_line = bytes "ATOM     32  N  AARG A  -3      11.281  86.699  94.383  0.50 35.88           N  "

-- x 11281, occupancy 50, number -3
unfoldable pub nitrogen_record : Atom
nitrogen_record =
    record {
      identity =
          record {
            serial = record { 0 = 32 };
            name = bytes " N  ";
            alternate = byte "A";
            residue =
                record {
                  name = bytes "ARG";
                  chain = byte "A";
                  number = record { 0 = negsuc 2 };
                  insertion = byte " ";
                };
          };
      measure = record { position = record { x = pos 11281; y = pos 86699; z = pos 94383 }; occupancy = 50; temperature = pos 3588 };
      species = record { element = bytes " N"; charge = bytes "  " };
    }

-- the ATOM line with other bytes from column c on
abbrev pub nitrogen_with : ℕ → String → List ℕ
nitrogen_with c s = take (c - 1) nitrogen_line ++ (bytes s ++ drop (c - 1 + length (bytes s)) nitrogen_line)

-- a line, filled up with blanks
abbrev pub columns_with : String → List ℕ
columns_with s = bytes s ++ blanks (80 - length (bytes s))

-- ---- texts
-- lines, each filled up with blanks to 80 columns and closed by a newline
abbrev pub text_of : List String → List ℕ
text_of [] = []
text_of (s ∷ ss) = (bytes s ++ (blanks (80 - length (bytes s)) ++ (byte "\n" ∷ []))) ++ text_of ss

-- MASTER with zeros
abbrev pub zeros : String
zeros = "MASTER        0    0    0    0    0    0    0    0    0    0    0    0"

-- the shortest entry, and the same with one byte after END
unfoldable pub shortest : List ℕ
shortest = text_of ("HEADER" ∷ zeros ∷ "END" ∷ [])

unfoldable pub beyond : List ℕ
beyond = shortest ++ (byte " " ∷ [])

-- two ATOM lines with serial 5
unfoldable pub twice : List ℕ
twice =
    text_of
    ("HEADER"
    ∷ "ATOM      5  N   ARG A   1      11.281  86.699  94.383  0.50 35.88           N"
    ∷ "ATOM      5  CA  ARG A   1      11.281  86.699  94.383  0.50 35.88           C"
    ∷ [])

-- an ATOM line again, with another serial and another x; and the same with alternate letters blank and A
unfoldable pub again : List ℕ
again =
    text_of
    ("HEADER"
    ∷ "ATOM      5  N   ARG A   1      11.281  86.699  94.383  0.50 35.88           N"
    ∷ "ATOM      6  N   ARG A   1      12.281  86.699  94.383  0.50 35.88           N"
    ∷ [])

unfoldable pub alternates : List ℕ
alternates =
    text_of
    ("HEADER"
    ∷ "ATOM      5  N   ARG A   1      11.281  86.699  94.383  0.50 35.88           N"
    ∷ "ATOM      6  N  AARG A   1      12.281  86.699  94.383  0.50 35.88           N"
    ∷ [])

-- a chain of one atom, closed, and two waters
abbrev pub chain : String
chain = "ATOM      1  N   ARG A   1      11.281  86.699  94.383  0.50 35.88           N"

abbrev pub close : String
close = "TER       2      ARG A   1"

abbrev pub water7 : String
water7 = "HETATM    3  O   HOH B   7      11.281  86.699  94.383  1.00 35.88           O"

abbrev pub water8 : String
water8 = "HETATM    4  O   HOH B   8      12.281  86.699  94.383  1.00 35.88           O"

unfoldable pub entry : List ℕ
entry =
    text_of
    ("HEADER" ∷ chain ∷ close ∷ water7 ∷ water8 ∷ "MASTER        0    0    0    0    0    0    0    0    3    1    0    0" ∷ "END" ∷ [])

-- the same without the first water: one coordinate line fewer, and MASTER says so
unfoldable pub rest : List ℕ
rest = text_of ("HEADER" ∷ chain ∷ close ∷ water8 ∷ "MASTER        0    0    0    0    0    0    0    0    2    1    0    0" ∷ "END" ∷ [])

-- two waters with a bond between them, and what is left without the first
abbrev pub bond : String
bond = "CONECT    3    4"

unfoldable pub bonded : List ℕ
bonded = text_of ("HEADER" ∷ water7 ∷ water8 ∷ bond ∷ "MASTER        0    0    0    0    0    0    0    0    2    0    1    0" ∷ "END" ∷ [])

unfoldable pub single : List ℕ
single = text_of ("HEADER" ∷ water8 ∷ "MASTER        0    0    0    0    0    0    0    0    1    0    0    0" ∷ "END" ∷ [])

-- ---- models
-- MODEL 1, MODEL 2, and ENDMDL
abbrev pub model1 : String
model1 = "MODEL        1"

abbrev pub model2 : String
model2 = "MODEL        2"

abbrev pub endmdl : String
endmdl = "ENDMDL"

-- the line of model 1 by itself
unfoldable pub model_line : List ℕ
model_line = bytes model1 ++ blanks 66

-- HETATM 5 of one atom in two models; MASTER counts it once
abbrev pub water5 : String
water5 = "HETATM    5  O   HOH B   7      11.281  86.699  94.383  1.00 35.88           O"

unfoldable pub twofold : List ℕ
twofold =
    text_of
    ("HEADER" ∷ model1 ∷ water5 ∷ endmdl ∷ model2 ∷ water5 ∷ endmdl
    ∷ "MASTER        0    0    0    0    0    0    0    0    1    0    0    0" ∷ "END" ∷ [])

-- two waters in each of two models, with a bond between them
abbrev pub inner7 : String
inner7 = "HETATM    1  O   HOH A   7      11.281  86.699  94.383  1.00 35.88           O"

abbrev pub inner8 : String
inner8 = "HETATM    2  O   HOH A   8      12.281  86.699  94.383  1.00 35.88           O"

abbrev pub inner_bond : String
inner_bond = "CONECT    1    2"

unfoldable pub models : List ℕ
models =
    text_of
    ("HEADER" ∷ model1 ∷ inner7 ∷ inner8 ∷ endmdl ∷ model2 ∷ inner7 ∷ inner8 ∷ endmdl ∷ inner_bond
    ∷ "MASTER        0    0    0    0    0    0    0    0    2    0    1    0" ∷ "END" ∷ [])

-- the same without the first water of model 1, and without that of either model: then the bond is gone too
unfoldable pub one_gone : List ℕ
one_gone =
    text_of
    ("HEADER" ∷ model1 ∷ inner8 ∷ endmdl ∷ model2 ∷ inner7 ∷ inner8 ∷ endmdl ∷ inner_bond
    ∷ "MASTER        0    0    0    0    0    0    0    0    1    0    1    0" ∷ "END" ∷ [])

unfoldable pub both_gone : List ℕ
both_gone =
    text_of
    ("HEADER" ∷ model1 ∷ inner8 ∷ endmdl ∷ model2 ∷ inner8 ∷ endmdl
    ∷ "MASTER        0    0    0    0    0    0    0    0    1    0    0    0" ∷ "END" ∷ [])

-- ---- slots
-- an atom that is in, at some thousandths
abbrev pub slot_at : ℤ → ℤ → ℤ → Slot
slot_at x y z =
    slot_with no_model atom_kind mark_in no_slot.serial (residue_of no_slot) no_slot.name no_slot.alternate
    (record { x = x; y = y; z = z }) no_slot.occupancy no_slot.temperature no_slot.element no_slot.charge
