-- Looking for a number among numbers that rise. Assumes nothing.
use Prim.Native.Nat.{ℕ, ◌+◌, ◌-◌, ◌≤◌, ◌<◌}
use mathlib.Core.Bool.{Bool, true, false}
use mathlib.Core.Path.{◌≡◌, refl, sym, ◌∙◌}
use native.Mathlib.Omega.{arith}
use native.Mathlib.Nat.{lt_trans, lt_of_lt_of_le, le_of_lt, le_trans, le_refl, lt_of_le_of_lt}
use borrow.Author.Count.{below_more}
use borrow.Author.Tests.{ltb-true, ltb-false, eqb-true}
use lib.Dec.{ltb, eqb}
use Rattle.ascii.proofs.Choice.{picks}
use Rattle.search.specs.declared.Span.{Span}
use Rattle.search.specs.Search.{span, part_of, Rises, Bracket}

pub bracket_start : (S : ℕ → ℕ) (lo hi x : ℕ) → lo ≤ hi → Bracket S lo hi x lo hi
bracket_start S lo hi x h =
    record {
      lo_a = omega arith;
      a_z = h;
      z_hi = omega arith;
      below = λ j g k. absurd (omega arith);
      above = λ j g k. absurd (omega arith);
    }

pub bracket_up : (S : ℕ → ℕ) (lo hi x a z m : ℕ) → Rises S lo hi
    → Bracket S lo hi x a z → a ≤ m → m < z → S m < x → Bracket S lo hi x (m + 1) z
bracket_up S lo hi x a z m r B h g e =
    let w : m < hi = lt_of_lt_of_le g B.z_hi in
    record {
      lo_a = omega (arith, B.lo_a);
      a_z = omega arith;
      z_hi = B.z_hi;
      below = λ j l k. below_more (λ (i : ℕ). lo ≤ i → S i < x) m (λ i q p. lt_trans (r i m p q w) e) (λ p. e) j k l;
      above = B.above;
    }

pub bracket_down : (S : ℕ → ℕ) (lo hi x a z m : ℕ) → Rises S lo hi
    → Bracket S lo hi x a z → a ≤ m → m < z → x ≤ S m → Bracket S lo hi x a m
bracket_down S lo hi x a z m r B h g e =
    record {
      lo_a = B.lo_a;
      a_z = h;
      z_hi = omega (arith, B.z_hi);
      below = B.below;
      above = λ j l k. go j l k (ltb m j) refl;
    }
  where
    go : (j : ℕ) → m ≤ j → j < hi → (b : Bool) → ltb m j ≡ b → x ≤ S j
    go j l k true u = le_of_lt (lt_of_le_of_lt e (r m j (le_trans B.lo_a h) (ltb-true m j u) k))
    go j l k false u =
        let same : m ≡ j = omega (arith, ltb-false m j u) in
        rw same at e

-- of numbers that rise, x is the one with index m
pub bracket_there : (S : ℕ → ℕ) (lo hi x m : ℕ) → Rises S lo hi → lo ≤ m → m < hi → S m ≡ x → Bracket S lo hi x m m
bracket_there S lo hi x m r h g e =
    record {
      lo_a = h;
      a_z = le_refl m;
      z_hi = omega arith;
      below = λ j l k. omega (arith, e, r j m l k g);
      above = λ j l k. go j l k (ltb m j) refl;
    }
  where
    go : (j : ℕ) → m ≤ j → j < hi → (b : Bool) → ltb m j ≡ b → x ≤ S j
    go j l k true u = omega (arith, e, r m j h (ltb-true m j u) k)
    go j l k false u =
        let same : m ≡ j = omega (arith, ltb-false m j u) in
        let y : S j ≡ x = rw same at e in
        omega (arith, y)

-- the ends have met
pub bracket_met : (S : ℕ → ℕ) (lo hi x a z : ℕ) → Bracket S lo hi x a z → z ≤ a → Bracket S lo hi x a a
bracket_met S lo hi x a z B h =
    record {
      lo_a = B.lo_a;
      a_z = omega arith;
      z_hi = le_trans B.a_z B.z_hi;
      below = B.below;
      above = λ j l k. B.above j (le_trans h l) k;
    }

-- ---- a look at place m, where v stands
abbrev Held : (ℕ → ℕ) → ℕ → ℕ → ℕ → Span → Type 0
Held S lo hi x s = Bracket S lo hi x s.lo s.hi

pub part_held : (S : ℕ → ℕ) (lo hi x : ℕ) (s : Span) (m v : ℕ) → Rises S lo hi → Bracket S lo hi x s.lo s.hi → s.lo ≤ m → m < s.hi → v ≡ S m
    → Bracket S lo hi x (part_of s m v x).lo (part_of s m v x).hi
unfolding part_of
part_held S lo hi x s m v r B h g e =
    picks (Held S lo hi x) (ltb v x) (span (m + 1) s.hi) _
    (λ t. bracket_up S lo hi x s.lo s.hi m r B h g (rw (← e) (ltb-true v x t)))
    (λ f.
    picks (Held S lo hi x) (eqb v x) (span m m) (span s.lo m)
    (λ t. bracket_there S lo hi x m r (le_trans B.lo_a h) (lt_of_lt_of_le g B.z_hi) (sym e ∙ eqb-true v x t))
    (λ _. bracket_down S lo hi x s.lo s.hi m r B h g (rw (← e) (ltb-false v x f))))

-- it leaves less
pub part_less : (s : Span) (m v x : ℕ) → s.lo ≤ m → m < s.hi → (part_of s m v x).hi - (part_of s m v x).lo < s.hi - s.lo
unfolding part_of
part_less s m v x h g =
    picks (λ (q : Span). q.hi - q.lo < s.hi - s.lo) (ltb v x) (span (m + 1) s.hi) _ (λ _. omega arith)
    (λ _. picks (λ (q : Span). q.hi - q.lo < s.hi - s.lo) (eqb v x) (span m m) (span s.lo m) (λ _. omega arith) (λ _. omega arith))

-- and nothing past the span
pub part_within : (s : Span) (m v x : ℕ) → m < s.hi → (part_of s m v x).hi ≤ s.hi
unfolding part_of
part_within s m v x g =
    picks (λ (q : Span). q.hi ≤ s.hi) (ltb v x) (span (m + 1) s.hi) _ (λ _. omega arith)
    (λ _. picks (λ (q : Span). q.hi ≤ s.hi) (eqb v x) (span m m) (span s.lo m) (λ _. omega arith) (λ _. omega arith))
