-- Names: bytes of certain classes, alone or a few together.
use Rattle.std.specs.Prelude.{◌+◌, ◌∷◌}
use Rattle.ascii.specs.Library.{ℕ, zero, suc, List, [], Bool, false, length, get_or, eqb, byte, pick, both, either, same, between, is_upper, is_code}
use Rattle.columns.specs.Columns.{clean_at}
use Rattle.fields.specs.Format.{Format, raw_f}

-- ---- a few columns, as the list of their bytes
-- the n bytes from `at`
abbrev pub name_at : ℕ → List ℕ → ℕ → List ℕ
name_at zero l at = []
name_at (suc n) l at = get_or l at 0 ∷ name_at n l (at + 1)

-- n bytes that pass a test
abbrev pub sized : ℕ → List ℕ → Bool → Bool
sized n name holds = pick (eqb (length name) n) holds false

-- n bytes that a test takes, written as they are
abbrev pub name_f : ℕ → (List ℕ → Bool) → Format (List ℕ)
name_f n test = raw_f n (name_at n) (λ name. name_at n name 0) test

-- ---- one column
abbrev pub is_blank : ℕ → Bool
is_blank b = same b (byte " ")

-- a letter of either case, or a digit
abbrev pub is_chain : ℕ → Bool
is_chain b = either (is_code b) (between (byte "a") (byte "z") b)

-- blank, or A-Z
abbrev pub is_insertion : ℕ → Bool
is_insertion b = either (is_blank b) (is_upper b)

-- blank, A-Z or 0-9
abbrev pub is_alternate : ℕ → Bool
is_alternate b = either (is_blank b) (is_code b)

-- any byte of a column but the blank
abbrev pub is_filled : ℕ → Bool
is_filled b = between (byte "!") (byte "~") b

-- what a column may hold
abbrev pub is_column : ℕ → Bool
is_column b = between (byte " ") (byte "~") b

-- a name character: A-Z, 0-9, ' or *
abbrev pub is_name_byte : ℕ → Bool
is_name_byte b = either (is_code b) (either (same b (byte "'")) (same b (byte "*")))

-- ---- a few columns together
-- one to three bytes of a class, right-justified: of each byte, whether it is of the class, and of the first two, whether they are blank
abbrev pub right_three : Bool → Bool → Bool → Bool → Bool → Bool
right_three a b c no-a no-b = both c (either (both b (either a no-a)) (both no-b no-a))

-- a residue name: 1 to 3 of A-Z and 0-9, right-justified
abbrev pub is_residue : List ℕ → Bool
is_residue n = sized 3 n (right_three (is_code (get_or n 0 0)) (is_code (get_or n 1 0)) (is_code (get_or n 2 0)) (is_blank (get_or n 0 0)) (is_blank (get_or n 1 0)))

-- the identifier of a helix or a sheet: 1 to 3 bytes that are not blank, right-justified
abbrev pub is_identifier : List ℕ → Bool
is_identifier n =
    sized 3 n (right_three (is_filled (get_or n 0 0)) (is_filled (get_or n 1 0)) (is_filled (get_or n 2 0)) (is_blank (get_or n 0 0)) (is_blank (get_or n 1 0)))

-- a charge: blank, or 1-9 followed by + or -
abbrev pub is_charge : List ℕ → Bool
is_charge p =
    sized 2 p
    (either (both (is_blank (get_or p 0 0)) (is_blank (get_or p 1 0)))
    (both (between (byte "1") (byte "9") (get_or p 0 0)) (either (same (get_or p 1 0) (byte "+")) (same (get_or p 1 0) (byte "-")))))

-- name characters, then blanks, in two columns and in three
abbrev pub padded_two : ℕ → ℕ → Bool
padded_two c d = either (both (is_name_byte c) (either (is_name_byte d) (is_blank d))) (both (is_blank c) (is_blank d))

abbrev pub padded_three : ℕ → ℕ → ℕ → Bool
padded_three b c d = either (both (is_name_byte b) (padded_two c d)) (both (is_blank b) (both (is_blank c) (is_blank d)))

-- an atom's name: its first two columns are judged with the element; then name characters, then blanks
abbrev pub is_atom_name : List ℕ → Bool
is_atom_name n = sized 4 n (both (both (is_column (get_or n 0 0)) (is_column (get_or n 1 0))) (padded_two (get_or n 2 0) (get_or n 3 0)))

-- n columns of which each may hold anything
abbrev pub is_free : ℕ → List ℕ → Bool
is_free n name = sized n name (clean_at name 0 n)

-- name characters in all four columns
abbrev pub is_full : List ℕ → Bool
is_full n =
    sized 4 n
    (both (both (is_name_byte (get_or n 0 0)) (is_name_byte (get_or n 1 0))) (both (is_name_byte (get_or n 2 0)) (is_name_byte (get_or n 3 0))))

-- an atom's name in a registration: at most one blank, then one or more name characters, then blanks
abbrev pub is_bond_name : List ℕ → Bool
is_bond_name n =
    sized 4 n
    (either (both (is_name_byte (get_or n 0 0)) (padded_three (get_or n 1 0) (get_or n 2 0) (get_or n 3 0)))
    (both (is_blank (get_or n 0 0)) (both (is_name_byte (get_or n 1 0)) (padded_two (get_or n 2 0) (get_or n 3 0)))))
