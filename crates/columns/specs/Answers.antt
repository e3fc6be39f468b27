-- What a reader answers.
use Rattle.std.specs.Prelude.{ℕ, zero, suc, min, Result, Ok, Err}
use Rattle.columns.specs.declared.{Column.Column}

-- the value where there is no fault, else the fault
abbrev pub read_as : {A : Type 0} → ℕ → A → Result A Column
read_as zero v = Ok v
read_as (suc c) v = Err (record { 0 = suc c })

-- what a field answers under a rule: of two faults, the lower column
abbrev pub lower_of : {A : Type 0} → Result A Column → Result (Unit {0}) Column → Result A Column
lower_of f (Ok u) = f
lower_of (Ok v) (Err b) = Err b
lower_of (Err a) (Err b) = Err (record { 0 = min a.0 b.0 })
