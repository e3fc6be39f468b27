-- Formats: a run of columns, with its fields, what it means and how it is written. l is a line, and `at` the index of the format's first column.
use Rattle.std.specs.Prelude.{◌+◌, ◌<◌, ◌⊎◌, ◌∷◌, ◌++◌, ◌≡◌}
use Rattle.ascii.specs.Library.{ℕ, zero, suc, List, [], map, Bool, true, false, length, get_or, drop, eqb, ltb, ℤ, nat_abs, byte, pick, both}
use Rattle.std.specs.Prelude.{Result}
use Rattle.columns.specs.declared.{Column.Column}
use Rattle.columns.specs.Answers.{read_as}
use Rattle.columns.specs.Columns.{cols, blame, blamed_of, leftmost, first_of, gap_of, blanks}
use Rattle.numbers.specs.Number.{render}
use Rattle.fields.specs.Field.{is_neg, ranged_number, signed_number, ranged_of, spans_of}

-- ---- fields
-- a field of a line: its first column, how many columns it has, and whether it is right
pub record Field : Type 0 where
  pub column : ℕ
  pub width : ℕ
  pub right : Bool

-- the first column of the leftmost field that is wrong, or 0
unfoldable pub leftmost_wrong : List Field → ℕ
leftmost_wrong [] = 0
leftmost_wrong (f ∷ fs) = pick f.right (leftmost_wrong fs) f.column

-- the fields fill the columns from c up to, but not with, column e
unfoldable pub SideBySide : ℕ → List Field → ℕ → Type 0
SideBySide c [] e = c ≡ e
SideBySide c (f ∷ fs) e = (f.column ≡ c) × SideBySide (c + f.width) fs e

-- f is one of some fields
abbrev pub Among : Field → List Field → Type 0
Among f [] = ⊥
Among f (g ∷ gs) = (f ≡ g) ⊎ Among f gs

-- column c is the first of the leftmost field that is wrong, or 0
pub record Leftmost (fs : List Field) (c : ℕ) : Type 0 where
  -- left of it every field is right
  pub before : (f : Field) → Among f fs → f.column < c → f.right ≡ true
  -- where it is not 0 it is that of a field that is wrong
  pub here : (c ≡ 0 → ⊥) → (f : Field) × Among f fs × (f.column ≡ c) × (f.right ≡ false)
  -- where it is 0 every field is right
  pub none : c ≡ 0 → (f : Field) → Among f fs → f.right ≡ true

-- n columns that must be blank, each a field of its own
unfoldable pub blank_fields : List ℕ → ℕ → ℕ → List Field
blank_fields l at zero = []
blank_fields l at (suc n) = blank_fields l at n ++ (record { column = at + n + 1; width = 1; right = eqb (get_or l (at + n) 0) (byte " ") } ∷ [])

-- a rule between fields: the one at column c is right only where the rule holds
abbrev pub with_rule : ℕ → Bool → Field → Field
with_rule c holds f = record { column = f.column; width = f.width; right = pick (eqb f.column c) (both f.right holds) f.right }

-- two runs of bytes are the same
unfoldable pub same_bytes : List ℕ → List ℕ → Bool
same_bytes [] [] = true
same_bytes [] (b ∷ y) = false
same_bytes (a ∷ x) [] = false
same_bytes (a ∷ x) (b ∷ y) = both (eqb a b) (same_bytes x y)

-- ---- formats
pub record Format (A : Type 0) : Type 1 where
  -- how many columns
  pub width : ℕ
  -- the fields in them, from left to right
  pub fields : List ℕ → ℕ → List Field
  -- the first column of the leftmost field that is wrong, or 0
  pub fault : List ℕ → ℕ → ℕ
  -- what the columns mean, where nothing is wrong
  pub value : List ℕ → ℕ → A
  -- the columns that a value is written as
  pub text : A → List ℕ
  -- whether a value is within its range
  pub ok : A → Bool

-- what a reader of a format answers: the value where nothing is wrong, else the fault
abbrev pub read_of : {A : Type 0} → Format A → List ℕ → ℕ → Result A Column
read_of F l at = read_as (F.fault l at) (F.value l at)

-- one field: it is right where it is what the value that it means is written as, and that value is within its range
abbrev pub sole : {A : Type 0} → ℕ → (List ℕ → ℕ → ℕ) → (List ℕ → ℕ → A) → (A → List ℕ) → (A → Bool) → Format A
sole n fault value text ok =
    record {
      width = n;
      fields = λ l at. record { column = at + 1; width = n; right = both (same_bytes (cols l at n) (text (value l at))) (ok (value l at)) } ∷ [];
      fault = fault;
      value = value;
      text = text;
      ok = ok;
    }

-- a number from lo to hi, e as in `number_of`
abbrev pub ranged_f : ℕ → ℕ → ℕ → ℕ → Format ℕ
ranged_f n e lo hi =
    sole n (λ l at. (ranged_number n e lo hi l at).column) (λ l at. (ranged_number n e lo hi l at).value) (λ v. render n e false v) (ranged_of lo hi)

-- Integer(n) from lo to hi
abbrev pub whole_f : ℕ → ℕ → ℕ → Format ℕ
whole_f n = ranged_f n 0

-- Real(n.d) from lo to hi, counted in its last decimal
abbrev pub whole_real_f : ℕ → ℕ → ℕ → ℕ → Format ℕ
whole_real_f n d = ranged_f n (d + 1)

-- a number of either sign, from -low to high, which are the ends of what its columns hold
abbrev pub signed_f : ℕ → ℕ → ℕ → ℕ → Format ℤ
signed_f n e low high =
    sole n (λ l at. (signed_number n e l at).column) (λ l at. (signed_number n e l at).value) (λ z. render n e (is_neg z) (nat_abs z)) (spans_of low high)

-- Integer(n) of either sign
abbrev pub integer_f : ℕ → ℕ → ℕ → Format ℤ
integer_f n = signed_f n 0

-- Real(n.d) of either sign, counted in its last decimal
abbrev pub real_f : ℕ → ℕ → ℕ → ℕ → Format ℤ
real_f n d = signed_f n (d + 1)

-- n bytes that a test takes
abbrev pub raw_f : {A : Type 0} → ℕ → (List ℕ → ℕ → A) → (A → List ℕ) → (A → Bool) → Format A
raw_f n value text test = sole n (λ l at. blame (test (value l at)) at) value text test

-- one byte that a test takes
abbrev pub byte_f : (ℕ → Bool) → Format ℕ
byte_f test = raw_f 1 (λ l at. get_or l at 0) (λ b. b ∷ []) test

-- no columns
abbrev pub none_f : Format (Unit {0})
none_f = record { width = 0; fields = λ l at. []; fault = λ l at. 0; value = λ l at. tt; text = λ a. []; ok = λ a. true }

-- one format after another
infixr 20 ◌then◌
abbrev pub ◌then◌ : {A B : Type 0} → Format A → Format B → Format (A × B)
F then G =
    record {
      width = F.width + G.width;
      fields = λ l at. F.fields l at ++ G.fields l (at + F.width);
      fault = λ l at. first_of (F.fault l at) (G.fault l (at + F.width));
      value = λ l at. (F.value l at, G.value l (at + F.width));
      text = λ a. F.text a.0 ++ G.text a.1;
      ok = λ a. both (F.ok a.0) (G.ok a.1);
    }

-- a format after n blank columns
abbrev pub after : {A : Type 0} → ℕ → Format A → Format A
after n F =
    record {
      width = n + F.width;
      fields = λ l at. blank_fields l at n ++ F.fields l (at + n);
      fault = λ l at. first_of (gap_of l at n) (F.fault l (at + n));
      value = λ l at. F.value l (at + n);
      text = λ a. blanks n ++ F.text a;
      ok = F.ok;
    }

-- the same columns, with another form for the value
abbrev pub held : {A B : Type 0} → Format A → (A → B) → (B → A) → Format B
held F to from =
    record {
      width = F.width;
      fields = F.fields;
      fault = F.fault;
      value = λ l at. to (F.value l at);
      text = λ b. F.text (from b);
      ok = λ b. F.ok (from b);
    }

-- a rule between fields, and the column that it blames
abbrev pub under : {A : Type 0} → Format A → (A → Bool) → ℕ → Format A
under F test c =
    record {
      width = F.width;
      fields = λ l at. map (with_rule c (test (F.value l at))) (F.fields l at);
      fault = λ l at. leftmost (F.fault l at) (blamed_of (test (F.value l at)) c);
      value = F.value;
      text = F.text;
      ok = λ a. both (F.ok a) (test a);
    }

-- a format whose columns are shut, so that a caller's goals stay short; its width is told
abbrev pub shut : {A : Type 0} → ℕ → Format A → Format A
shut n F = record { width = n; fields = F.fields; fault = F.fault; value = F.value; text = F.text; ok = F.ok }

-- ---- writing a line x of 80 bytes into l, where `good` says whether the record is within its ranges: the number, and what l then holds
unfoldable pub write_number : Bool → List ℕ → ℕ
write_number good l = pick good (pick (ltb (length l) 80) 17 0) 6

unfoldable pub write_line : Bool → List ℕ → List ℕ → List ℕ
write_line good x l = pick good (pick (ltb (length l) 80) l (x ++ drop 80 l)) l
