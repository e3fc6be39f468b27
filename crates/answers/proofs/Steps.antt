-- A fractional place of a text is its rows and then the place by them. Assumes nothing.
use mathlib.Core.Path.{◌≡◌, refl, ◌∙◌}
use mathlib.Core.List.{List}
use mathlib.Core.Bool.{Bool, true, false}
use Prim.Native.Nat.{ℕ, ◌+◌, ◌/◌}
use native.Mathlib.Omega.{arith}
use lib.Dec.{eqb, leb}
use lib.ListN.{length}
use lib.IntN.{ℤ}
use borrow.Author.Tests.{eqb-false}
use Rattle.ascii.specs.Tests.{pick}
use Rattle.gate.specs.Gate.{check_of}
use Rattle.coordinate.specs.declared.Position.{Position}
use Rattle.fractional.specs.declared.Rows.{Rows}
use Rattle.std.specs.Prelude.{Result, Ok, Err}
use Rattle.fractional.specs.Scale.{scale_at, rows_at, scale_of}
use Rattle.fractional.specs.Place.{place_of, placed_by, fractional_of}
use Rattle.answers.specs.Boundary.{answered}
use Rattle.answers.specs.Frame.{rows_from, scale_answer, place_answer}
use Rattle.answers.specs.Promise.{TwoSteps}

-- no refusal has the number 0
never_zero : (t : List ℕ) (n : ℕ) → scale_of t ≡ Err n → n ≡ 0 → ⊥
unfolding scale_of
never_zero t n e z = go (check_of t).number refl (eqb (check_of t).number 0) refl (leb (scale_at t + 3) (length t / 81)) e
  where
    go : (m : ℕ) → (check_of t).number ≡ m → (a : Bool) → eqb (check_of t).number 0 ≡ a → (b : Bool)
        → pick a (pick b (Ok (rows_at t (scale_at t))) (Err 29)) (Err (check_of t).number) ≡ Err n → ⊥
    go m q true u true e = let x : ◌≡◌ {A = ℕ} 0 1 = cc in omega arith
    go m q true u false e = let x : ◌≡◌ {A = ℕ} 29 n = cc in omega arith
    go m q false u b e = let x : (check_of t).number ≡ n = cc in eqb-false _ _ u (x ∙ z)

two : (s : Result Rows ℕ) (p : Position) (rows out : List ℤ) → (scale-refused : (n : ℕ) → s ≡ Err n → n ≡ 0 → ⊥)
    → ((scale_answer s rows).number ≡ 0 → place_answer (place_of (rows_from (scale_answer s rows).left) p) out ≡ place_answer (placed_by s p) out)
    × (((scale_answer s rows).number ≡ 0 → ⊥) → place_answer (placed_by s p) out ≡ answered (scale_answer s rows).number out)
two (Ok r) p rows out z = (λ e. refl, λ e. absurd (e refl))
two (Err n) p rows out z = (λ e. absurd (z n refl e), λ e. refl)

pub two_steps : (t : List ℕ) (p : Position) (rows out : List ℤ) → TwoSteps t p rows out
unfolding fractional_of
two_steps t p rows out = let x = two (scale_of t) p rows out (λ n e z. never_zero t n e z) in record { granted = x.0; refused = x.1 }
