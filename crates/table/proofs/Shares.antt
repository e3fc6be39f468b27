-- The saved entry and the tray as pieces: each piece of the text goes to the one or to the other, once and in order.
-- Assumes nothing.
use Prim.Native.Nat.{ℕ, ◌+◌, ◌*◌, ◌≤◌}
use mathlib.Core.List.{List, [], ◌∷◌, ◌++◌, map}
use mathlib.Core.Bool.{Bool, true, false, not, true≢false}
use mathlib.Core.Path.{◌≡◌, refl, sym, ◌∙◌, ap}
use native.Mathlib.Omega.{arith}
use lib.ListN.{length, length-append}
use Rattle.ascii.specs.Tests.{pick, either, alike}
use Rattle.ascii.proofs.Choice.{picks}
use Rattle.line.specs.declared.Record.{Record}
use Rattle.line.specs.declared.Record.TheVariants.{Coordinate, Ter, Helix, Sheet, Conect, Master, End, Model, Endmdl, Cell, Transform}
use Rattle.pieces.specs.declared.Line.{Line}
use Rattle.pieces.specs.declared.Line.TheVariants.{Bad, Wrong, Carried, Typed}
use Rattle.pieces.specs.Pieces.{line_of}
use Rattle.facets.specs.Facets.{is_fence}
use Rattle.places.specs.declared.Counts.{Counts}
use Rattle.places.specs.Counts.{no_counts}
use Rattle.rows.specs.Text.{cut}
use Rattle.gate.specs.Gate.{check_of}
use Rattle.slots.specs.declared.Slot.{Slot}
use Rattle.table.specs.Table.{one_of}
use Rattle.table.specs.Deal.{stays, past_next, counted, master_piece, is_master, written, share, dealt, output_of}
use Rattle.table.specs.Promise.{stays_from, is_bound, tray_from, own_of}
use Rattle.table.proofs.Joined.{join, All81, cut_join, accepted_81}
use Rattle.table.proofs.Master.{master_81}

-- ---- the pieces that the bytes of the saved entry (saving true), or of the tray (false), are made of
-- whether a piece is among them
abbrev pub shared : Bool → Bool → List ℕ → Bool
shared saving stay p = either (is_bound p) (alike saving stay)

unfoldable pub shares : Bool → List Slot → ℕ → Bool → Counts → List (List ℕ) → List (List ℕ)
shares saving xs j past q [] = []
shares saving xs j past q (p ∷ ps) =
    pick (shared saving (stays xs j (line_of p)) p)
    (written q p ∷ shares saving xs (j + one_of (line_of p)) (past_next past (line_of p)) (counted (stays xs j (line_of p)) past q (line_of p)) ps)
    (shares saving xs (j + one_of (line_of p)) (past_next past (line_of p)) (counted (stays xs j (line_of p)) past q (line_of p)) ps)

pick_join : (b : Bool) (p : List ℕ) (ps : List (List ℕ)) → pick b p [] ++ join ps ≡ join (pick b (p ∷ ps) ps)
pick_join true p ps = refl
pick_join false p ps = refl

dealt_shares : (saving : Bool) (xs : List Slot) (j : ℕ) (past : Bool) (q : Counts) (ps : List (List ℕ)) → dealt saving xs j past q ps ≡ join (shares saving xs j past q ps)
unfolding dealt shares share
dealt_shares saving xs j past q [] = refl
dealt_shares saving xs j past q (p ∷ ps) =
    let stay = stays xs j (line_of p) in
    ap (λ (r : List ℕ). pick (shared saving stay p) (written q p) [] ++ r) (dealt_shares saving xs (j + one_of (line_of p)) (past_next past (line_of p)) (counted stay past q (line_of p)) ps)
    ∙ pick_join (shared saving stay p) (written q p) (shares saving xs (j + one_of (line_of p)) (past_next past (line_of p)) (counted stay past q (line_of p)) ps)

-- ---- they have 81 bytes each, so they are what the bytes are cut into
written_81 : (q : Counts) (p : List ℕ) → length p ≡ 81 → length (written q p) ≡ 81
unfolding written
written_81 q p e = picks (λ (x : List ℕ). length x ≡ 81) (is_master (line_of p)) (master_piece q) p (λ _. master_81 q) (λ _. e)

shares_81 : (saving : Bool) (xs : List Slot) (j : ℕ) (past : Bool) (q : Counts) (ps : List (List ℕ)) → All81 ps → All81 (shares saving xs j past q ps)
unfolding shares
shares_81 saving xs j past q [] a = tt
shares_81 saving xs j past q (p ∷ ps) a =
    let r = shares_81 saving xs (j + one_of (line_of p)) (past_next past (line_of p)) (counted (stays xs j (line_of p)) past q (line_of p)) ps a.1 in
    picks All81 (shared saving (stays xs j (line_of p)) p) _ _ (λ _. (written_81 q p a.0, r)) (λ _. r)

pub cut_bytes : (saving : Bool) (t : List ℕ) (xs : List Slot) → (check_of t).number ≡ 0 → cut (output_of saving t xs) ≡ shares saving xs 0 false no_counts (cut t)
unfolding output_of
cut_bytes saving t xs e =
    ap cut (dealt_shares saving xs 0 false no_counts (cut t))
    ∙ cut_join (shares saving xs 0 false no_counts (cut t)) (shares_81 saving xs 0 false no_counts (cut t) (accepted_81 t e))

-- so a line more makes 81 bytes more
join_size : (ps : List (List ℕ)) → All81 ps → length (join ps) ≡ 81 * length ps
join_size [] a = refl
join_size (p ∷ ps) a = simp length-append (omega (arith, a.0, join_size ps a.1))

pub bytes_size : (saving : Bool) (t : List ℕ) (xs : List Slot) → (check_of t).number ≡ 0 → length (output_of saving t xs) ≡ 81 * length (shares saving xs 0 false no_counts (cut t))
unfolding output_of
bytes_size saving t xs e =
    ap length (dealt_shares saving xs 0 false no_counts (cut t))
    ∙ join_size (shares saving xs 0 false no_counts (cut t)) (shares_81 saving xs 0 false no_counts (cut t) (accepted_81 t e))

-- ---- which lines stay
-- MASTER, MODEL and ENDMDL always do
record_stays : (xs : List Slot) (k : ℕ) (r : Record) → stays xs k (Typed r) ≡ false → (is_master (Typed r) ≡ false) × (is_fence (Typed r) ≡ false)
unfolding stays
record_stays xs k (Coordinate het a) e = (refl, refl)
record_stays xs k (Ter t) e = (refl, refl)
record_stays xs k (Helix h) e = (refl, refl)
record_stays xs k (Sheet s) e = (refl, refl)
record_stays xs k (Conect c) e = (refl, refl)
record_stays xs k (Master t) e = absurd (true≢false e)
record_stays xs k End e = (refl, refl)
record_stays xs k (Model m) e = absurd (true≢false e)
record_stays xs k Endmdl e = absurd (true≢false e)
record_stays xs k (Cell c) e = (refl, refl)
record_stays xs k (Transform scale axis t) e = (refl, refl)

line_stays : (xs : List Slot) (k : ℕ) (l : Line) → stays xs k l ≡ false → (is_master l ≡ false) × (is_fence l ≡ false)
line_stays xs k (Bad n) e = (refl, refl)
line_stays xs k (Wrong n column) e = (refl, refl)
line_stays xs k (Carried n) e = (refl, refl)
line_stays xs k (Typed r) e = record_stays xs k r e

pub fence_stays : (xs : List Slot) (k : ℕ) (l : Line) → is_fence l ≡ true → stays xs k l ≡ true
fence_stays xs k l f = go (stays xs k l) refl
  where
    go : (b : Bool) → stays xs k l ≡ b → b ≡ true
    go true e = refl
    go false e = absurd (true≢false (sym f ∙ (line_stays xs k l e).1))

-- a MODEL or ENDMDL line is no MASTER line
record_bound : (r : Record) → is_fence (Typed r) ≡ true → is_master (Typed r) ≡ false
record_bound (Coordinate het a) e = refl
record_bound (Ter t) e = refl
record_bound (Helix h) e = refl
record_bound (Sheet s) e = refl
record_bound (Conect c) e = refl
record_bound (Master t) e = absurd (true≢false (sym e))
record_bound End e = refl
record_bound (Model m) e = refl
record_bound Endmdl e = refl
record_bound (Cell c) e = refl
record_bound (Transform scale axis t) e = refl

bound_master : (l : Line) → is_fence l ≡ true → is_master l ≡ false
bound_master (Bad n) e = refl
bound_master (Wrong n column) e = refl
bound_master (Carried n) e = refl
bound_master (Typed r) e = record_bound r e

-- ---- the pieces of the two, copies of MODEL and ENDMDL left out, add up to all
pub shares_sum : (xs : List Slot) (k : ℕ) (past : Bool) (q : Counts) (ps : List (List ℕ))
    → length (shares true xs k past q ps) + own_of (shares false xs k past q ps) ≡ length ps
unfolding shares own_of written either
shares_sum xs k past q [] = refl
shares_sum xs k past q (p ∷ ps) =
    let stay : Bool = stays xs k (line_of p) in
    go (is_bound p) refl stay refl _ _ (shares_sum xs (k + one_of (line_of p)) (past_next past (line_of p)) (counted stay past q (line_of p)) ps)
  where
    go : (f : Bool) → is_bound p ≡ f → (b : Bool) → stays xs k (line_of p) ≡ b → (us ws : List (List ℕ)) → length us + own_of ws ≡ length ps
        → length (pick (either f (alike true b)) (pick (is_master (line_of p)) (master_piece q) p ∷ us) us) + own_of (pick (either f (alike false b)) (pick (is_master (line_of p)) (master_piece q) p ∷ ws) ws) ≡ length (p ∷ ps)
    go true f true b us ws e = rw (bound_master (line_of p) f, f) (omega arith)
    go true f false b us ws e = absurd (true≢false (sym f ∙ (line_stays xs k (line_of p) b).1))
    go false f true b us ws e = omega arith
    go false f false b us ws e = rw ((line_stays xs k (line_of p) b).0, f) (omega arith)

-- with the copies they are as many as the pieces and the MODEL and ENDMDL lines
unfoldable pub bounds_of : List (List ℕ) → ℕ
bounds_of [] = 0
bounds_of (p ∷ ps) = pick (is_bound p) 1 0 + bounds_of ps

pub shares_both : (xs : List Slot) (k : ℕ) (past : Bool) (q : Counts) (ps : List (List ℕ))
    → length (shares true xs k past q ps) + length (shares false xs k past q ps) ≡ length ps + bounds_of ps
unfolding shares bounds_of either
shares_both xs k past q [] = refl
shares_both xs k past q (p ∷ ps) =
    let stay : Bool = stays xs k (line_of p) in
    go (is_bound p) stay _ _ (shares_both xs (k + one_of (line_of p)) (past_next past (line_of p)) (counted stay past q (line_of p)) ps)
  where
    go : (f b : Bool) (us ws : List (List ℕ)) → length us + length ws ≡ length ps + bounds_of ps
        → length (pick (either f (alike true b)) (written q p ∷ us) us) + length (pick (either f (alike false b)) (written q p ∷ ws) ws) ≡ length (p ∷ ps) + (pick f 1 0 + bounds_of ps)
    go true b us ws e = omega arith
    go false true us ws e = omega arith
    go false false us ws e = omega arith

-- ---- the tray has the pieces that go as they were: MASTER always stays
pub shares_tray : (xs : List Slot) (k : ℕ) (past : Bool) (q : Counts) (ps : List (List ℕ)) → shares false xs k past q ps ≡ tray_from (stays_from xs k (map line_of ps)) ps
unfolding shares stays_from tray_from written either
shares_tray xs k past q [] = refl
shares_tray xs k past q (p ∷ ps) =
    let stay : Bool = stays xs k (line_of p) in
    go (is_bound p) refl stay refl _ _ (shares_tray xs (k + one_of (line_of p)) (past_next past (line_of p)) (counted stay past q (line_of p)) ps)
  where
    go : (f : Bool) → is_bound p ≡ f → (b : Bool) → stays xs k (line_of p) ≡ b → (us ws : List (List ℕ)) → us ≡ ws
        → pick (either f (alike false b)) (pick (is_master (line_of p)) (master_piece q) p ∷ us) us ≡ pick (either f (not b)) (p ∷ ws) ws
    go true f b u us ws e = rw (bound_master (line_of p) f, e)
    go false f true u us ws e = e
    go false f false u us ws e = rw ((line_stays xs k (line_of p) u).0, e)

-- no more pieces than there are
pub shares_few : (saving : Bool) (xs : List Slot) (k : ℕ) (past : Bool) (q : Counts) (ps : List (List ℕ)) → length (shares saving xs k past q ps) ≤ length ps
unfolding shares
shares_few saving xs k past q [] = omega arith
shares_few saving xs k past q (p ∷ ps) =
    go (shared saving (stays xs k (line_of p)) p) _ (shares_few saving xs (k + one_of (line_of p)) (past_next past (line_of p)) (counted (stays xs k (line_of p)) past q (line_of p)) ps)
  where
    go : (b : Bool) (us : List (List ℕ)) → length us ≤ length ps → length (pick b (written q p ∷ us) us) ≤ length (p ∷ ps)
    go true us h = omega arith
    go false us h = omega arith
