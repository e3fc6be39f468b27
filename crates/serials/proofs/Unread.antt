-- A serial that is not read is 0, which no line has. Assumes nothing.
use mathlib.Core.Path.{◌≡◌, refl, sym}
use mathlib.Core.List.{List}
use Prim.Native.Nat.{ℕ, zero, suc}
use native.Mathlib.Omega.{arith}
use lib.Dec.{ltb}
use Rattle.std.specs.Result.{result_unwrap_or}
use Rattle.ascii.proofs.Choice.{picks}
use Rattle.columns.specs.Answers.{read_as}
use Rattle.numbers.specs.declared.Number.{Number}
use Rattle.numbers.specs.Number.{number_of}
use Rattle.fields.specs.Field.{Whole, read_in, whole_in, ranged_number}

-- a field that is wrong has the value 0
value_none : (lo hi : ℕ) (h : Number) (at : ℕ) → ((whole_in lo hi h at).column ≡ 0 → ⊥) → (whole_in lo hi h at).value ≡ 0
unfolding whole_in
value_none lo hi h at =
    picks P h.good _ _ (λ _. picks P h.minus _ _ (λ _ z. refl) (λ _. picks P (ltb h.mag lo) _ _ (λ _ z. refl) (λ _. picks P (ltb hi h.mag) _ _ (λ _ z. refl) (λ _ z. absurd (z refl))))) (λ _ z. refl)
  where
    P : Whole → Type 0
    P r = (r.column ≡ 0 → ⊥) → r.value ≡ 0

or_none : (f v : ℕ) → ((f ≡ 0 → ⊥) → v ≡ 0) → result_unwrap_or (read_as f v) 0 ≡ v
or_none zero v h = refl
or_none (suc f) v h = sym (h (λ z. absurd (omega arith)))

pub value_or_none : (n e lo hi : ℕ) (l : List ℕ) (at : ℕ) → result_unwrap_or (read_in (ranged_number n e lo hi l at)) 0 ≡ (ranged_number n e lo hi l at).value
value_or_none n e lo hi l at = or_none _ _ (value_none lo hi (number_of l at n e) at)
