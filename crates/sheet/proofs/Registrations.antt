-- A registration: blank, or filled. Assumes nothing.
use mathlib.Core.Path.{◌≡◌, refl}
use mathlib.Core.List.{List}
use mathlib.Core.Bool.{Bool, true, false}
use Prim.Native.Nat.{ℕ, zero, suc}
use native.Mathlib.Omega.{arith}
use lib.Dec.{eqb}
use borrow.Author.Tests.{ne_eqb}
use Rattle.std.specs.Prelude.{Option, Some, None, Result, Ok, Err}
use Rattle.ascii.specs.Tests.{pick}
use Rattle.columns.specs.declared.Column.{Column}
use Rattle.columns.specs.Answers.{read_as}
use Rattle.columns.specs.Columns.{gap_of, blanks}
use Rattle.columns.proofs.Readers.{last_wrong}
use Rattle.fields.specs.Format.{Format, read_of}
use Rattle.fields.specs.Choice.{maybe, blank}
use Rattle.sheet.specs.declared.Bond.{Bond}
use Rattle.sheet.specs.Sheets.{filled_text, filled_ok, is_absent, bond_f, registration_f, registration_columns}

abbrev chosen : Bool → Format (Option Bond)
chosen t = pick t (blank 29 None is_absent) (maybe bond_f None Some filled_text filled_ok)

wrong_fault : {A : Type 0} (c : Column) (f : ℕ) (v : A) → Err c ≡ read_as f v → f ≡ 0 → ⊥
wrong_fault c zero v e z = cc
wrong_fault c (suc f) v e z = absurd (omega arith)

module _ (l : List ℕ) (s : ℕ) where
  pub read_blank : gap_of l 41 29 ≡ 0 → Ok None ≡ read_of (registration_f s) l 41
  unfolding registration_columns
  read_blank g = go (eqb s 1)
    where
      go : (t : Bool) → Ok None ≡ read_as ((chosen t).fault l 41) ((chosen t).value l 41)
      go true = rw g
      go false = rw g

  pub read_first : (c : Column) → s ≡ 1 → ◌≡◌ {A = Result (Unit {0}) Column} (Err c) (read_as (gap_of l 41 29) tt) → Err c ≡ read_of (registration_f s) l 41
  unfolding registration_columns
  read_first c t e = rw t (last_wrong c _ _ _ e)

  pub read_filled : (c : Column) → (s ≡ 1 → ⊥) → ◌≡◌ {A = Result (Unit {0}) Column} (Err c) (read_as (gap_of l 41 29) tt) → read_of (registration_f s) l 41 ≡ read_as (bond_f.fault l 41) (Some (bond_f.value l 41))
  unfolding registration_columns
  read_filled c t e = rw (ne_eqb s 1 t, ne_eqb (gap_of l 41 29) 0 (wrong_fault c _ _ e))

none_good : (t : Bool) → true ≡ (chosen t).ok None
none_good true = refl
none_good false = refl

pub good_none : (s : ℕ) (r : Option Bond) → r ≡ None → true ≡ (registration_f s).ok r
unfolding registration_columns
good_none s r e = rw e (none_good (eqb s 1))

none_text : (t : Bool) → blanks 29 ≡ (chosen t).text None
none_text true = refl
none_text false = refl

pub text_none : (s : ℕ) → blanks 29 ≡ (registration_f s).text None
unfolding registration_columns
text_none s = none_text (eqb s 1)
