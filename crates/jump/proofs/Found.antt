-- What the answer of the jump means.
-- Assumes nothing.
use Rattle.std.proofs.Common.{Option, Some, None}
use Prim.Native.Nat.{ℕ, zero, suc, ◌+◌, ◌*◌, ◌/◌, ◌≤◌, ◌<◌}
use mathlib.Core.List.{List}
use mathlib.Core.Bool.{Bool, true, false, false≢true}
use mathlib.Core.Path.{◌≡◌, refl, sym, ◌∙◌, ap}
use mathlib.Core.Logic.{◌⊎◌, inl, inr, ⊎_elim}
use native.Mathlib.Omega.{arith}
use borrow.Author.Tests.{eqb-true, ltb-true, ltb-false}
use lib.Dec.{ltb}
use lib.ListN.{length}
use Rattle.facets.specs.declared.Spot.{Spot}
use Rattle.facets.specs.declared.Spot.TheVariants.{Site, Close}
use Rattle.facets.specs.Facets.{spot_in, is_spot, is_fence}
use Rattle.rows.specs.Text.{piece_at, row}
use Rattle.serials.specs.Known.{is_atom}
use Rattle.serials.specs.Search.{spot_serial, serial_of}
use Rattle.gate.specs.Gate.{check_of}
use Rattle.gate.proofs.Consequences.{consequences}
use Rattle.jump.specs.Jumping.{is_hit, jump_of}
use Rattle.jump.specs.Promise.{Jumps}
use Rattle.jump.proofs.Hits.{hit_site}
use Rattle.jump.proofs.Looking.{Looked, looked_start, looked_next, looked_hit, looked_over, past_misses}

-- ---- the first hit, or none
record At (x : ℕ) (t : List ℕ) : Type 0 where
  index : ℕ
  answer : jump_of x t ≡ record { line = index + 1; looked = index + 1 }
  hit : is_hit x (piece_at t index) ≡ true
  above : (j : ℕ) → j < index → is_hit x (piece_at t j) ≡ false

record Never (x : ℕ) (t : List ℕ) : Type 0 where
  answer : jump_of x t ≡ record { line = 0; looked = length t / 81 }
  misses : (j : ℕ) → is_hit x (piece_at t j) ≡ false

never_from : (x : ℕ) (t : List ℕ) (i : ℕ) → Looked x t i → length t < 81 * i + 81 → Never x t
never_from x t i L h = record { answer = looked_over x t i L h; misses = λ j. go j (ltb j i) refl }
  where
    go : (j : ℕ) → (b : Bool) → ltb j i ≡ b → is_hit x (piece_at t j) ≡ false
    go j true u = L.above j (ltb-true j i u)
    go j false u = past_misses x t j (omega (arith, ltb-false j i u))

-- m more lines are the rest of the text
search_on : (m : ℕ) (x : ℕ) (t : List ℕ) (i : ℕ) → length t < 81 * (i + m) + 81 → Looked x t i → At x t ⊎ Never x t
search_on zero x t i h L = inr (never_from x t i L (omega arith))
search_on (suc m) x t i h L = go (search_on m x t (i + 1) (omega arith)) (ltb (81 * i) (length t)) refl
  where
    look : (Looked x t (i + 1) → At x t ⊎ Never x t) → 81 * i < length t → (b : Bool) → is_hit x (piece_at t i) ≡ b → At x t ⊎ Never x t
    look on g true e = inl (record { index = i; answer = looked_hit x t i L g e; hit = e; above = L.above })
    look on g false e = on (looked_next x t i L g e)

    go : (Looked x t (i + 1) → At x t ⊎ Never x t) → (b : Bool) → ltb (81 * i) (length t) ≡ b → At x t ⊎ Never x t
    go on true u = look on (ltb-true _ _ u) (is_hit x (piece_at t i)) refl
    go on false u = inr (never_from x t i L (omega (arith, ltb-false (81 * i) (length t) u)))

searched : (x : ℕ) (t : List ℕ) → At x t ⊎ Never x t
searched x t = search_on (length t) x t 0 (omega arith) (looked_start x t)

-- ---- in an accepted text without models there is no second one
atom_serial : (x : ℕ) (s : Option Spot) → is_atom x s ≡ true → (is_spot s ≡ true) × (spot_serial s ≡ x)
atom_serial x (Some (Site het a)) e = (refl, eqb-true _ _ e)
atom_serial x (Some (Close t)) e = absurd (false≢true e)
atom_serial x None e = absurd (false≢true e)

hit_whole : (x : ℕ) (t : List ℕ) (i : ℕ) → is_hit x (piece_at t i) ≡ true → 81 * i + 81 ≤ length t
hit_whole x t i e = go (ltb (length t) (81 * i + 81)) refl
  where
    go : (b : Bool) → ltb (length t) (81 * i + 81) ≡ b → 81 * i + 81 ≤ length t
    go true u = absurd (false≢true (sym (past_misses x t i (ltb-true _ _ u)) ∙ e))
    go false u = ltb-false (length t) (81 * i + 81) u

apart : (x : ℕ) (t : List ℕ) (j i : ℕ) → (check_of t).number ≡ 0 → ((k : ℕ) → is_fence (row t k) ≡ false) → j < i
    → is_hit x (piece_at t j) ≡ true → is_hit x (piece_at t i) ≡ true → ⊥
apart x t j i g f h ej ei =
    let C = consequences t in
    let n = (C.ends g).0 in
    let w = hit_whole x t i ei in
    let a = atom_serial x (spot_in (row t j)) (sym (hit_site x t j) ∙ ej) in
    let b = atom_serial x (spot_in (row t i)) (sym (hit_site x t i) ∙ ei) in
    let r : serial_of (row t j) < serial_of (row t i) = C.serials_rise j i h (omega (arith, n, w)) (λ k u v. f k) a.0 b.0 in
    omega (arith, a.1, b.1)

only_at : (x : ℕ) (t : List ℕ) → (check_of t).number ≡ 0 → ((k : ℕ) → is_fence (row t k) ≡ false) → (i : ℕ) → is_hit x (piece_at t i) ≡ true
    → At x t → (jump_of x t).line ≡ i + 1
only_at x t g f i e A = ap (λ r. r.line) A.answer ∙ go (ltb A.index i) refl (ltb i A.index) refl
  where
    go : (b : Bool) → ltb A.index i ≡ b → (c : Bool) → ltb i A.index ≡ c → A.index + 1 ≡ i + 1
    go true u c v = absurd (apart x t A.index i g f (ltb-true _ _ u) A.hit e)
    go false u true v = absurd (false≢true (sym (A.above i (ltb-true _ _ v)) ∙ e))
    go false u false v = omega (arith, ltb-false A.index i u, ltb-false i A.index v)

-- ---- the statement
found_at : (x : ℕ) (t : List ℕ) → At x t → (i : ℕ) → (jump_of x t).line ≡ i + 1
    → (is_hit x (piece_at t i) ≡ true) × ((j : ℕ) → j < i → is_hit x (piece_at t j) ≡ false) × ((jump_of x t).looked ≡ i + 1)
found_at x t A i e =
    let l : (jump_of x t).line ≡ A.index + 1 = rw A.answer in
    let n : A.index ≡ i = omega (arith, l, e) in
    (rw (← n) A.hit, rw (← n) A.above, rw (A.answer, n))

pub jumps : (x : ℕ) (t : List ℕ) → Jumps x t
jumps x t = ⊎_elim at never (searched x t)
  where
    at : At x t → Jumps x t
    at A =
        let l : (jump_of x t).line ≡ A.index + 1 = rw A.answer in
        record {
          found = found_at x t A;
          nowhere = λ e. absurd (omega (arith, l, e));
          site = hit_site x t;
          only = λ g f i e. only_at x t g f i e A;
        }

    never : Never x t → Jumps x t
    never N =
        let l : (jump_of x t).line ≡ 0 = rw N.answer in
        record {
          found = λ i e. absurd (omega (arith, l, e));
          nowhere = λ e. (N.misses, rw N.answer);
          site = hit_site x t;
          only = λ g f i e. absurd (false≢true (sym (N.misses i) ∙ e));
        }
