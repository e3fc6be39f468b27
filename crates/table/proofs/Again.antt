-- The saved entry of an accepted text is accepted again.
-- Assumes nothing.
use Prim.Native.Nat.{ℕ, ◌+◌, ◌≤◌}
use mathlib.Core.List.{List, [], ◌∷◌, map}
use mathlib.Core.Bool.{Bool, true, false, true≢false}
use mathlib.Core.Path.{◌≡◌, refl, sym, ◌∙◌, ap, subst}
use native.Mathlib.Omega.{arith}
use lib.ListN.{length}
use Rattle.ascii.specs.Tests.{pick, either, alike}
use Rattle.facets.specs.Facets.{is_fence}
use Rattle.slots.specs.Slots.{no_model}
use Rattle.pieces.specs.declared.Line.{Line}
use Rattle.pieces.specs.Pieces.{line_of}
use Rattle.places.specs.declared.Counts.{Counts}
use Rattle.rules.specs.declared.State.{State}
use Rattle.places.specs.Counts.{no_counts}
use Rattle.rules.specs.Rules.{next_of, start_of}
use Rattle.rows.specs.Text.{cut}
use Rattle.gate.specs.Gate.{look_of, check_lines, check_of}
use Rattle.slots.specs.declared.Slot.{Slot}
use Rattle.table.specs.Table.{lines_from, loaded_of, one_of, table_of}
use Rattle.table.specs.Deal.{stays, past_next, counted, written, output_of}
use Rattle.table.proofs.Ready.{Ready, ready}
use Rattle.table.proofs.Fine.{Fine, accepted_fine}
use Rattle.table.proofs.Shares.{shares, fence_stays, cut_bytes}
use Rattle.table.proofs.Recount.{Under, under_start, under_next, past_next_lem, recounted, written_line}
use Rattle.table.proofs.Paired.{Paired, paired}
use Rattle.table.proofs.Fences.{accepted_fenced}
use Rattle.table.proofs.Saved.{saved_lines}
use Rattle.table.proofs.Granted.{start_granted}

-- ---- the pieces of the saved entry read as the lines that stay
map_pick : (f b : Bool) (p : List ℕ) (ps : List (List ℕ)) (l : Line) (ls : List Line) → (f ≡ true → b ≡ true) → line_of p ≡ l → map line_of ps ≡ ls
    → map line_of (pick (either f (alike true b)) (p ∷ ps) ps) ≡ pick b (l ∷ ls) ls
unfolding either
map_pick true true p ps l ls s e f = rw (e, f)
map_pick true false p ps l ls s e f = absurd (true≢false (sym (s refl)))
map_pick false true p ps l ls s e f = rw (e, f)
map_pick false false p ps l ls s e f = f

shares_lines : (seen : List Line) (s : State) (xs : List Slot) (j : ℕ) (past : Bool) (q : Counts) (ps : List (List ℕ)) → Fine seen s (map line_of ps) → Under q s.counts → s.models.past ≡ past
    → map line_of (shares true xs j past q ps) ≡ saved_lines xs j past q (map line_of ps)
unfolding shares saved_lines written
shares_lines seen s xs j past q [] f u w = refl
shares_lines seen s xs j past q (p ∷ ps) f u w =
    let l = line_of p in
    let known = look_of seen l in
    let v : Under (counted (stays xs j l) past q l) (next_of s l).counts =
    subst (λ (b : Bool). Under (counted (stays xs j l) b q l) (next_of s l).counts) w (under_next known (stays xs j l) q s l f.0 f.1 u) in
    map_pick (is_fence l) (stays xs j l) (written q p) _ (recounted q l) _ (fence_stays xs j l)
    (written_line known s q p l refl f.0 f.1 u)
    (shares_lines (l ∷ seen) (next_of s l) xs (j + one_of l) (past_next past l) (counted (stays xs j l) past q l) ps f.2 v (past_next_lem known s l f.0 f.1 ∙ ap (λ (b : Bool). past_next b l) w))

-- ---- the slots of a table that belongs to the text are beside its lines
ready_paired : (t : List ℕ) (xs : List Slot) → Ready t xs → Paired xs 0 (map line_of (cut t))
unfolding lines_from
ready_paired t xs R =
    let room : length (loaded_of t) ≤ length xs = R.room in
    paired xs 0 no_model (lines_from t 0) R.fit (omega arith) (accepted_fenced t R.good) R.agree

-- the saved entry is accepted again
pub saved_again : (t : List ℕ) (xs : List Slot) → table_of t xs ≡ 0 → (check_of (output_of true t xs)).number ≡ 0
unfolding check_of start_of
saved_again t xs e =
    let R = ready t xs e in
    let f = accepted_fine t R.good in
    ap (λ (ps : List (List ℕ)). (check_lines [] start_of (map line_of ps)).number) (cut_bytes true t xs R.good)
    ∙ ap (λ (ls : List Line). (check_lines [] start_of ls).number) (shares_lines [] start_of xs 0 false no_counts (cut t) f under_start refl)
    ∙ start_granted xs (map line_of (cut t)) f (ready_paired t xs R)
