-- The kinds of line, by their names in columns 1 to 6: one table of all that the rules say of each.
use Rattle.std.specs.Prelude.{◌+◌, ◌*◌, ◌/◌, ◌%◌, ◌∷◌, ◌++◌}
use Rattle.ascii.specs.Library.{ℕ, zero, suc, String, List, [], Bool, true, false, length, eqb, ltb, bytes, pick}
use Rattle.fields.specs.Format.{Format}
use Rattle.words.specs.Words.{word_at}
use Rattle.kinds.specs.declared.{Kind.Kind, Row.Row}
use Rattle.kinds.specs.declared.Kind.TheVariants.{Header, Title, Compnd, Source, Keywds, Expdta, Author, Revdat, Jrnl, Remark, Seqres, Het, Helix, Sheet, Cryst1, Origx1, Origx2, Origx3, Scale1, Scale2, Scale3, Atom, Hetatm, Ter, Conect, Master, End, Unknown, Model, Endmdl}

-- bytes as one number, to the base 256, after those that are packed already
abbrev pub packed : ℕ → List ℕ → ℕ
packed n [] = n
packed n (b ∷ x) = packed (256 * n + b) x

-- the last n bytes of such a number, before those that are unpacked already
abbrev pub unpacked : ℕ → ℕ → List ℕ → List ℕ
unpacked zero v x = x
unpacked (suc n) v x = unpacked n (v / 256) ((v % 256) ∷ x)

-- a name as one number
abbrev pub name_of : String → ℕ
name_of s = packed 0 (bytes s)

-- ---- the table
-- whether columns 7-80 are read, whether the line has a slot, and the columns of the table
abbrev pub row_with : Bool → Bool → ℕ → ℕ → ℕ → ℕ → ℕ → Row
row_with typed slot name low high here count =
    record { name = name; low = low; high = high; here = here; count = count; typed = typed; slot = slot }

-- columns 7-80 are free
abbrev pub carried : String → ℕ → ℕ → ℕ → ℕ → Row
carried s = row_with false false (name_of s)

-- columns 7-80 are read
abbrev pub typed : String → ℕ → ℕ → ℕ → ℕ → Row
typed s = row_with true false (name_of s)

-- they are read, and the line has a slot
abbrev pub slotted : String → ℕ → ℕ → ℕ → ℕ → Row
slotted s = row_with true true (name_of s)

-- The columns: the name; the first and the last of the places that the kind may follow; its own place;
-- which of the nine counts of MASTER it is counted in, 0 for none.
-- Place 0 is before the first line, which is HEADER; HEADER, CRYST1, MASTER and END stand at most once; END directly follows MASTER.
-- ORIGX and SCALE stand as trios: their first two lines are the places 22 to 25, which only the next line of the trio follows.
-- MODEL and ENDMDL share the place of the coordinate lines that stand between them.
-- An unknown name has no place, and follows none: none is from 1 to 0.
abbrev pub row_of : Kind → Row
row_of Header = carried "HEADER" 0 0 1 0
row_of Title = carried "TITLE " 1 2 2 0
row_of Compnd = carried "COMPND" 1 3 3 0
row_of Source = carried "SOURCE" 1 4 4 0
row_of Keywds = carried "KEYWDS" 1 5 5 0
row_of Expdta = carried "EXPDTA" 1 6 6 0
row_of Author = carried "AUTHOR" 1 7 7 0
row_of Revdat = carried "REVDAT" 1 8 8 0
row_of Jrnl = carried "JRNL  " 1 9 9 0
row_of Remark = carried "REMARK" 1 10 10 1
row_of Seqres = carried "SEQRES" 1 11 11 9
row_of Het = carried "HET   " 1 12 12 2
row_of Helix = typed "HELIX " 1 13 13 3
row_of Sheet = typed "SHEET " 1 14 14 4
row_of Cryst1 = typed "CRYST1" 1 14 15 0
row_of Origx1 = typed "ORIGX1" 1 15 22 5
row_of Origx2 = typed "ORIGX2" 22 22 23 5
row_of Origx3 = typed "ORIGX3" 23 23 16 5
row_of Scale1 = typed "SCALE1" 1 16 24 5
row_of Scale2 = typed "SCALE2" 24 24 25 5
row_of Scale3 = typed "SCALE3" 25 25 17 5
row_of Atom = slotted "ATOM  " 1 18 18 6
row_of Hetatm = slotted "HETATM" 1 18 18 6
row_of Ter = slotted "TER   " 1 18 18 7
row_of Conect = typed "CONECT" 1 19 19 8
row_of Master = typed "MASTER" 1 19 20 0
row_of End = typed "END   " 20 20 21 0
row_of Unknown = carried "" 1 0 0 0
row_of Model = typed "MODEL " 1 18 18 0
row_of Endmdl = typed "ENDMDL" 1 18 18 0

-- ---- its columns
-- the name of a kind
abbrev pub name_text : Kind → List ℕ
name_text k = unpacked 6 (row_of k).name []

-- the line of a kind whose columns 7 to 80 hold a
abbrev pub line_with : {A : Type 0} → Kind → Format A → A → List ℕ
line_with k F a = name_text k ++ F.text a

-- two kinds have the same name
abbrev pub is : Kind → Kind → Bool
is a k = eqb (row_of a).name (row_of k).name

-- a kind that has a place: every one but the unknown
abbrev pub is_named : Kind → Bool
is_named k = ltb 0 (row_of k).here

-- a kind whose columns 7-80 are read
abbrev pub is_typed : Kind → Bool
is_typed k = (row_of k).typed

-- ---- the kind of a line
-- the kinds that have a name
abbrev pub kinds : List Kind
kinds =
    Header ∷ Title ∷ Compnd ∷ Source ∷ Keywds ∷ Expdta ∷ Author ∷ Revdat ∷ Jrnl ∷
    Remark ∷ Seqres ∷ Het ∷ Helix ∷ Sheet ∷ Cryst1 ∷ Origx1 ∷ Origx2 ∷ Origx3 ∷
    Scale1 ∷ Scale2 ∷ Scale3 ∷ Atom ∷ Hetatm ∷ Ter ∷ Conect ∷ Master ∷ End ∷ Model ∷ Endmdl ∷ []

-- the first of some kinds whose name is n
abbrev pub first_named : ℕ → List Kind → Kind
first_named n [] = Unknown
first_named n (k ∷ ks) = pick (eqb n (row_of k).name) k (first_named n ks)

-- the kind of line that has the name n
unfoldable pub kind_named : ℕ → Kind
kind_named n = first_named n kinds

-- the kind of a line: a line under six bytes has no name
unfoldable pub kind_of : List ℕ → Kind
kind_of l = pick (ltb (length l) 6) Unknown (kind_named (word_at l 0 6))
