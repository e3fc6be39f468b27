-- A text is accepted exactly if each line is good and the last state stands at END.
-- Assumes nothing.
use Prim.Native.Nat.{ℕ}
use mathlib.Core.List.{List, [], ◌∷◌, map}
use mathlib.Core.Bool.{Bool, true, false}
use mathlib.Core.Path.{◌≡◌, refl}
use native.Mathlib.Omega.{arith}
use borrow.Author.Tests.{eqb-true, eqb-false, eq-eqb}
use lib.Dec.{eqb}
use Rattle.ascii.specs.Tests.{pick}
use Rattle.pieces.specs.declared.Line.{Line}
use Rattle.pieces.specs.Pieces.{line_of}
use Rattle.rules.specs.declared.State.{State}
use Rattle.places.specs.Places.{end_place}
use Rattle.rules.specs.Rules.{next_of, start_of}
use Rattle.gate.specs.Gate.{Verdict}
use Rattle.rows.specs.Text.{cut}
use Rattle.gate.specs.Gate.{number_in, refused_of, finish_of, check_lines, check_of}
use Rattle.table.proofs.Plain.{Plain, piece_plain}

-- each line is one that a piece can be, and good; END is the last
abbrev pub Fine : List Line → State → List Line → Type 0
Fine seen s [] = s.place ≡ end_place
Fine seen s (l ∷ ls) = Plain l × (number_in seen s l ≡ 0) × Fine (l ∷ seen) (next_of s l) ls

end_place_lem : (s : State) (v : Verdict) (b : Bool) → eqb s.place end_place ≡ b → (pick b v (refused_of 12 0 s)).number ≡ 0 → s.place ≡ end_place
unfolding refused_of
end_place_lem s v true e q = eqb-true _ _ e
end_place_lem s v false e q = absurd (omega arith)

step_good : (j c : ℕ) (v : Verdict) (s : State) (b : Bool) → eqb j 0 ≡ b → (pick b v (refused_of j c s)).number ≡ 0 → (j ≡ 0) × (v.number ≡ 0)
unfolding refused_of
step_good j c v s true e q = (eqb-true _ _ e, q)
step_good j c v s false e q = absurd (eqb-false j 0 e q)

granted_fine : (seen : List Line) (s : State) (ps : List (List ℕ)) → (check_lines seen s (map line_of ps)).number ≡ 0 → Fine seen s (map line_of ps)
unfolding check_lines finish_of
granted_fine seen s [] e = end_place_lem s _ (eqb s.place end_place) refl e
granted_fine seen s (p ∷ ps) e =
    let g = step_good (number_in seen s (line_of p)) _ _ s _ refl e in
    (piece_plain p, g.0, granted_fine (line_of p ∷ seen) (next_of s (line_of p)) ps g.1)

pub accepted_fine : (t : List ℕ) → (check_of t).number ≡ 0 → Fine [] start_of (map line_of (cut t))
unfolding check_of
accepted_fine t e = granted_fine [] start_of (cut t) e

-- ---- back, a line at a time
pub granted_end : (seen : List Line) (s : State) → s.place ≡ end_place → (check_lines seen s []).number ≡ 0
unfolding check_lines finish_of
granted_end seen s e = rw (eq-eqb s.place end_place e)

pub granted_step : (seen : List Line) (s : State) (l : Line) (ls : List Line) → number_in seen s l ≡ 0 → (check_lines (l ∷ seen) (next_of s l) ls).number ≡ 0
    → (check_lines seen s (l ∷ ls)).number ≡ 0
unfolding check_lines
granted_step seen s l ls g r = rw (eq-eqb (number_in seen s l) 0 g) r
