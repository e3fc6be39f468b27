-- A fractional place of a text is its rows and then the place by them: the statement. It is proved in proofs/.
use Rattle.std.specs.Prelude.{◌≡◌}
use Rattle.ascii.specs.Library.{ℕ, List, ℤ}
use Rattle.coordinate.specs.declared.{Position.Position}
use Rattle.fractional.specs.Scale.{scale_of}
use Rattle.fractional.specs.Place.{place_of, fractional_of}
use Rattle.answers.specs.Boundary.{answered}
use Rattle.answers.specs.Frame.{rows_from, scale_answer, place_answer}

pub record TwoSteps (t : List ℕ) (p : Position) (rows out : List ℤ) : Type 0 where
  -- where the rows are granted, what is left in `rows` gives the place that is asked of the text
  pub granted : (scale_answer (scale_of t) rows).number ≡ 0
      → place_answer (place_of (rows_from (scale_answer (scale_of t) rows).left) p) out ≡ place_answer (fractional_of t p) out
  -- where they are refused, so is the place, with the same number
  pub refused : ((scale_answer (scale_of t) rows).number ≡ 0 → ⊥)
      → place_answer (fractional_of t p) out ≡ answered (scale_answer (scale_of t) rows).number out
