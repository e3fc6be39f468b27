-- The column of the check at 6 is what the offending line is answered where it is read by itself.
-- Assumes nothing.
use Prim.Native.Nat.{ℕ}
use mathlib.Core.List.{List}
use mathlib.Core.Path.{◌≡◌, refl, sym, ◌∙◌, ap}
use native.Mathlib.Omega.{arith}
use lib.ListN.{take}
use Rattle.ascii.specs.Tests.{pick}
use Rattle.ascii.proofs.Choice.{picks}
use Rattle.kinds.specs.declared.Kind.{Kind}
use Rattle.line.specs.declared.Record.{Record}
use Rattle.line.specs.Lines.{read_line, answer_number, answer_column}
use Rattle.line.proofs.Columns.{six}
use Rattle.pieces.specs.declared.Line.{Line}
use Rattle.pieces.proofs.Alone.{wrong_answer, piece_wrong, bad_low}
use Rattle.pieces.specs.declared.Line.TheVariants.{Bad, Wrong, Carried, Typed}
use Rattle.places.specs.Places.{place_bad, fence_bad}
use Rattle.facets.specs.Facets.{record_kind, spot_of, bond_of, fold_of, total_of, fence_of}
use Rattle.rules.specs.declared.Looked.{Looked}
use Rattle.rules.specs.declared.State.{State}
use Rattle.rules.specs.Rules.{model_bad, serial_bad, run_bad, bond_bad, fold_bad, count_bad, unfinished, typed_bad, judge_of}
use Rattle.rows.specs.Text.{piece_at, row}
use Rattle.gate.specs.Gate.{column_of}
use Rattle.gate.proofs.Runs.{state_at, number_at}

-- ---- 6 is the number of a wrong line alone
-- a number that is not 6
abbrev Other : ℕ → Type 0
Other n = n ≡ 6 → ⊥

typed_other : (look : Looked) (s : State) (r : Record) → Other (typed_bad look s r)
unfolding typed_bad
typed_other look s r =
    picks Other (place_bad s.place (record_kind r)) 5 _ (λ _ e. omega arith)
    (λ _. picks Other (fence_bad s.place s.models (record_kind r)) 5 _ (λ _ e. omega arith)
    (λ _. picks Other (model_bad s.models (fence_of r)) 22 _ (λ _ e. omega arith)
    (λ _. picks Other (serial_bad s.last (spot_of r)) 7 _ (λ _ e. omega arith)
    (λ _. picks Other (run_bad s.run (spot_of r)) 8 _ (λ _ e. omega arith)
    (λ _. picks Other look.twin 21 _ (λ _ e. omega arith)
    (λ _. picks Other (bond_bad look.known s.bond (bond_of r)) 9 _ (λ _ e. omega arith)
    (λ _. picks Other (fold_bad s.helix s.ladder (fold_of r)) 10 _ (λ _ e. omega arith)
    (λ _. picks Other (count_bad s.counts (total_of r)) 11 0 (λ _ e. omega arith) (λ _ e. omega arith)))))))))

carried_other : (s : State) (k : Kind) → Other (pick (place_bad s.place k) 5 (pick (fence_bad s.place s.models k) 5 (pick (unfinished s.ladder) 10 0)))
carried_other s k =
    picks Other (place_bad s.place k) 5 _ (λ _ e. omega arith)
    (λ _. picks Other (fence_bad s.place s.models k) 5 _ (λ _ e. omega arith) (λ _. picks Other (unfinished s.ladder) 10 0 (λ _ e. omega arith) (λ _ e. omega arith)))

line_column : (t : List ℕ) (i : ℕ) (look : Looked) (s : State) (l : Line) → row t i ≡ l → judge_of look s l ≡ 6 → read_line (take 80 (piece_at t i)) ≡ wrong_answer (record { 0 = column_of 6 l })
unfolding judge_of row
line_column t i look s (Bad n) e j = absurd (omega (arith, bad_low (piece_at t i) n e))
line_column t i look s (Wrong k c) e j = piece_wrong k c (piece_at t i) e
line_column t i look s (Carried k) e j = absurd (carried_other s k j)
line_column t i look s (Typed r) e j = absurd (typed_other look s r j)

pub column_read : (t : List ℕ) (i c : ℕ) → number_at (row t) i ≡ 6 → c ≡ column_of 6 (row t i) → (c ≡ answer_column (read_line (take 80 (piece_at t i)))) × (c ≡ 0 → ⊥)
column_read t i c j e =
    let r = line_column t i _ (state_at (row t) i) (row t i) refl j in
    let q : c ≡ answer_column (read_line (take 80 (piece_at t i))) = e ∙ sym (ap answer_column r) in
    (q, λ z. six (take 80 (piece_at t i)) (ap answer_number r) (sym q ∙ z))
