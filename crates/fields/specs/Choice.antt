-- Formats with a choice: a field with a further test, columns that may be blank, columns that depend on what stands before them.
use Rattle.std.specs.Prelude.{◌+◌, ◌++◌}
use Rattle.ascii.specs.Library.{ℕ, List, map, Bool, true, false, eqb, pick, both}
use Rattle.columns.specs.Columns.{first_of, gap_of, blanks, blame}
use Rattle.numbers.specs.Number.{render}
use Rattle.fields.specs.Field.{ranged_number}
use Rattle.fields.specs.Format.{Format, with_rule, blank_fields, sole}

-- a field whose value a test takes; a fault of either kind is blamed on its first column
abbrev pub only : {A : Type 0} → Format A → (A → Bool) → Format A
only F test =
    record {
      width = F.width;
      fields = λ l at. map (with_rule (at + 1) (test (F.value l at))) (F.fields l at);
      fault = λ l at. first_of (F.fault l at) (blame (test (F.value l at)) at);
      value = F.value;
      text = F.text;
      ok = λ a. both (F.ok a) (test a);
    }

-- blank, or filled: B is A, or one value more, `empty`, of which `full` says nothing
abbrev pub maybe : {A B : Type 0} → Format A → B → (A → B) → (B → List ℕ) → (B → Bool) → Format B
maybe F empty full text ok =
    record {
      width = F.width;
      fields = λ l at. pick (eqb (gap_of l at F.width) 0) (blank_fields l at F.width) (F.fields l at);
      fault = λ l at. pick (eqb (gap_of l at F.width) 0) 0 (F.fault l at);
      value = λ l at. pick (eqb (gap_of l at F.width) 0) empty (full (F.value l at));
      text = text;
      ok = ok;
    }

-- n columns that must be blank, each a field of its own
abbrev pub blank : {B : Type 0} → ℕ → B → (B → Bool) → Format B
blank n empty ok = record { width = n; fields = λ l at. blank_fields l at n; fault = λ l at. gap_of l at n; value = λ l at. empty; text = λ b. blanks n; ok = ok }

-- w columns whose format depends on what was read before them
abbrev pub into : {A B : Type 0} → ℕ → Format A → (A → Format B) → Format (A × B)
into w F G =
    record {
      width = F.width + w;
      fields = λ l at. F.fields l at ++ (G (F.value l at)).fields l (at + F.width);
      fault = λ l at. first_of (F.fault l at) ((G (F.value l at)).fault l (at + F.width));
      value = λ l at. (F.value l at, (G (F.value l at)).value l (at + F.width));
      text = λ a. F.text a.0 ++ (G a.0).text a.1;
      ok = λ a. both (F.ok a.0) ((G a.0).ok a.1);
    }

-- an Integer(n) that is always v
abbrev pub fixed : ℕ → ℕ → Format (Unit {0})
fixed n v = sole n (λ l at. (ranged_number n 0 v v l at).column) (λ l at. tt) (λ a. render n 0 false v) (λ a. true)
