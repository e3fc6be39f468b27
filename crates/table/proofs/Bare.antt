-- The saved entry has the lines that stay, byte for byte and in order; of MASTER the counts alone are written anew.
-- Assumes nothing.
use Prim.Native.Nat.{ℕ, ◌+◌}
use mathlib.Core.List.{List, [], ◌∷◌, map}
use mathlib.Core.Bool.{Bool, true, false, true≢false}
use mathlib.Core.Path.{◌≡◌, refl, sym, ◌∙◌, ap, ap₂, subst}
use Rattle.rules.specs.declared.Looked.{Looked}
use Rattle.ascii.specs.Tests.{pick, either, alike}
use Rattle.line.specs.declared.Record.TheVariants.{Master}
use Rattle.pieces.specs.declared.Line.{Line}
use Rattle.pieces.specs.declared.Line.TheVariants.{Typed}
use Rattle.pieces.specs.Pieces.{line_of}
use Rattle.places.specs.declared.Counts.{Counts}
use Rattle.rules.specs.declared.State.{State}
use Rattle.places.specs.Counts.{no_counts}
use Rattle.rules.specs.Rules.{judge_of, next_of, start_of}
use Rattle.rows.specs.Text.{cut}
use Rattle.gate.specs.Gate.{look_of, check_of}
use Rattle.slots.specs.declared.Slot.{Slot}
use Rattle.table.specs.Table.{one_of}
use Rattle.table.specs.Deal.{stays, past_next, counted, tally_of, master_piece, is_master, written}
use Rattle.table.specs.Promise.{stays_from, stay_from, is_bound, bare}
use Rattle.table.proofs.Plain.{Plain}
use Rattle.table.proofs.Fine.{Fine, accepted_fine}
use Rattle.table.proofs.Shares.{shares, fence_stays}
use Rattle.table.proofs.Recount.{Under, under_start, under_next, past_next_lem, written_line}

-- a piece written is the piece read, apart from a MASTER line's counts
bare_written : (known : Looked) (s : State) (q : Counts) (p : List ℕ) → Plain (line_of p) → judge_of known s (line_of p) ≡ 0 → Under q s.counts
    → bare (written q p) ≡ bare p
unfolding bare written
bare_written known s q p plain g u = go (is_master (line_of p)) refl (written_line known s q p (line_of p) refl plain g u)
  where
    go : (b : Bool) → is_master (line_of p) ≡ b → line_of (pick b (master_piece q) p) ≡ pick b (Typed (Master (tally_of q))) (line_of p)
        → bare (pick b (master_piece q) p) ≡ pick b [] p
    go true e w = rw w
    go false e w = rw e

bare_from : (seen : List Line) (s : State) (xs : List Slot) (j : ℕ) (past : Bool) (q : Counts) (ps : List (List ℕ)) → Fine seen s (map line_of ps) → Under q s.counts → s.models.past ≡ past
    → map bare (shares true xs j past q ps) ≡ map bare (stay_from (stays_from xs j (map line_of ps)) ps)
unfolding shares stays_from stay_from either
bare_from seen s xs j past q [] f u w = refl
bare_from seen s xs j past q (p ∷ ps) f u w =
    let l = line_of p in
    let known = look_of seen l in
    let stay : Bool = stays xs j l in
    let v : Under (counted stay past q l) (next_of s l).counts = subst (λ (b : Bool). Under (counted stay b q l) (next_of s l).counts) w (under_next known stay q s l f.0 f.1 u) in
    go (bare_written known s q p f.0 f.1 u) (is_bound p) refl stay refl _ _
    (bare_from (l ∷ seen) (next_of s l) xs (j + one_of l) (past_next past l) (counted stay past q l) ps f.2 v (past_next_lem known s l f.0 f.1 ∙ ap (λ (b : Bool). past_next b l) w))
  where
    go : bare (written q p) ≡ bare p → (g : Bool) → is_bound p ≡ g → (b : Bool) → stays xs j (line_of p) ≡ b → (us ws : List (List ℕ)) → map bare us ≡ map bare ws
        → map bare (pick (either g (alike true b)) (written q p ∷ us) us) ≡ map bare (pick b (p ∷ ws) ws)
    go one true g true h us ws e = ap₂ ◌∷◌ one e
    go one true g false h us ws e = absurd (true≢false (sym (fence_stays xs j (line_of p) g) ∙ h))
    go one false g true h us ws e = ap₂ ◌∷◌ one e
    go one false g false h us ws e = e

pub shares_bare : (t : List ℕ) (xs : List Slot) → (check_of t).number ≡ 0
    → map bare (shares true xs 0 false no_counts (cut t)) ≡ map bare (stay_from (stays_from xs 0 (map line_of (cut t))) (cut t))
unfolding start_of
shares_bare t xs e = bare_from [] start_of xs 0 false no_counts (cut t) (accepted_fine t e) under_start refl
