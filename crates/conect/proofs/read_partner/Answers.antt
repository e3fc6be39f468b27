use mathlib.Core.Path.{◌≡◌, refl}
use mathlib.Core.Bool.{true, false}
use Prim.Native.Nat.{ℕ, zero, suc}
use borrow.Author.Tests.{ne_eqb}
use Rattle.std.specs.Result.{is_ok}
use Rattle.columns.specs.Answers.{read_as}
use Rattle.conect.specs.Conects.{partner_columns}
use Rattle.conect.proofs.read_partner.Goals as goal

is_right : {A : Type 0} (f : ℕ) (v : A) → true ≡ is_ok (read_as f v) → f ≡ 0
is_right zero v e = refl
is_right (suc f) v e = cc

is_wrong : {A : Type 0} (f : ℕ) (v : A) → false ≡ is_ok (read_as f v) → f ≡ 0 → ⊥
is_wrong zero v e z = cc
is_wrong (suc f) v e z = cc

pub returns-then-is_ok : goal.returns-then-is_ok
unfolding partner_columns
returns-then-is_ok c = let z = is_right _ _ (rw c.gap.ensures at c.if-is_ok.ensures.value) in rw z

pub returns : goal.returns
unfolding partner_columns
returns c = rw (ne_eqb _ 0 (is_wrong _ _ (rw c.gap.ensures at c.if-is_ok.ensures.value))) c.read_whole.ensures
