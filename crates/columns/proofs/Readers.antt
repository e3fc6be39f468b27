-- What a reader answers: of one field, and of a field with what stands right of it.
-- Assumes nothing.
use mathlib.Core.Path.{◌≡◌, refl}
use Prim.Native.Nat.{ℕ, zero, suc}
use Rattle.std.specs.Prelude.{Ok, Err}
use Rattle.columns.specs.declared.Column.{Column}
use Rattle.columns.specs.Columns.{first_of}
use Rattle.columns.specs.Answers.{read_as}

pub read_good : {A : Type 0} (f : ℕ) (v : A) → f ≡ 0 → Ok v ≡ read_as f v
read_good f v h = rw h

pub read_wrong : {A : Type 0} (f : ℕ) (v : A) → (f ≡ 0 → ⊥) → Err (record { 0 = f }) ≡ read_as f v
read_wrong zero v h = absurd (h refl)
read_wrong (suc f) v h = refl

-- a field that is right has the value that was answered
pub good_value : {A : Type 0} (a : A) (f : ℕ) (v : A) → Ok a ≡ read_as f v → a ≡ v
good_value a zero v e = cc
good_value a (suc f) v e = cc

pub good_fault : {A : Type 0} (a : A) (f : ℕ) (v : A) → Ok a ≡ read_as f v → f ≡ 0
good_fault a zero v e = refl
good_fault a (suc f) v e = cc

-- once a field is right, all depends on what stands right of it
pub then_good : {A B : Type 0} (a : A) (f : ℕ) (v : A) (g : ℕ) (w : B) → Ok a ≡ read_as f v → read_as (first_of f g) w ≡ read_as g w
unfolding first_of
then_good a zero v g w e = refl
then_good a (suc f) v g w e = cc

-- a wrong field is the fault of the whole
pub then_wrong : {A B : Type 0} (c : Column) (f : ℕ) (v : A) (g : ℕ) (w : B) → Err c ≡ read_as f v → Err c ≡ read_as (first_of f g) w
unfolding first_of
then_wrong c zero v g w e = cc
then_wrong c (suc f) v g w e = cc

-- so is the last one
pub last_wrong : {A B : Type 0} (c : Column) (f : ℕ) (v : A) (w : B) → Err c ≡ read_as f v → Err c ≡ read_as f w
last_wrong c zero v w e = cc
last_wrong c (suc f) v w e = cc
