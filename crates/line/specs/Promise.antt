-- What is promised of lines read by themselves, over all typed kinds: the two round trips with records, and what the column means. They are
-- proved in proofs/.
use Rattle.std.specs.Prelude.{◌≤◌, ◌++◌, ◌≡◌}
use Rattle.ascii.specs.Library.{ℕ, List, true, length, drop}
use Rattle.columns.specs.Columns.{clean_at}
use Rattle.fields.specs.Format.{SideBySide, Leftmost, write_number, write_line}
use Rattle.kinds.specs.Kinds.{is_typed, kind_of}
use Rattle.std.specs.Prelude.{Ok}
use Rattle.line.specs.declared.{Record.Record}
use Rattle.line.specs.Lines.{read_line, answer_number, answer_column, fields_of, record_ok, record_line}

pub record RoundTrips : Type 0 where
  -- a line that is not refused reads to a record
  pub granted : (l : List ℕ) → answer_number (read_line l) ≡ 0 → (r : Record) × (read_line l ≡ Ok r)
  -- a line that reads to a record is the line that the record is written as, and the record is within its ranges
  pub kept : (l : List ℕ) (r : Record) → read_line l ≡ Ok r → (record_line r ≡ l) × (record_ok r ≡ true)
  -- a record within its ranges reads back from the line that it is written as
  pub back : (r : Record) → record_ok r ≡ true → read_line (record_line r) ≡ Ok r
  -- a line that was read, written into an output with room, stands there byte for byte, and what lies behind it is as found
  pub rewritten : (l out : List ℕ) (r : Record) → read_line l ≡ Ok r → 80 ≤ length out
      → (write_number (record_ok r) out ≡ 0) × (write_line (record_ok r) (record_line r) out ≡ l ++ drop 80 out)

-- the column that comes with 6
pub record Columns : Type 0 where
  -- a line is refused with 6 exactly if its column is not 0
  pub six : (l : List ℕ) → answer_number (read_line l) ≡ 6 → answer_column (read_line l) ≡ 0 → ⊥
  pub only_six : (l : List ℕ) → (answer_column (read_line l) ≡ 0 → ⊥) → answer_number (read_line l) ≡ 6
  -- the fields of a line stand side by side in columns 7 to 80
  pub side_by_side : (l : List ℕ) → length l ≡ 80 → is_typed (kind_of l) ≡ true → SideBySide 7 (fields_of (kind_of l) l) 81
  -- the column is the first of the leftmost field that is wrong, by itself or because it cannot stand with an earlier one
  pub leftmost : (l : List ℕ) → length l ≡ 80 → clean_at l 0 80 ≡ true → is_typed (kind_of l) ≡ true → Leftmost (fields_of (kind_of l) l) (answer_column (read_line l))
