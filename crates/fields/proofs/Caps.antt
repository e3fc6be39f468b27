-- A number has room in its columns exactly if it is below their cap.
-- Assumes nothing.
use mathlib.Core.Path.{◌≡◌, refl}
use mathlib.Core.List.{List}
use mathlib.Core.Bool.{Bool, true, false}
use Prim.Native.Nat.{ℕ, zero, suc, ◌+◌, ◌*◌, ◌/◌, max, ◌≤◌, ◌<◌}
use native.Mathlib.Omega.{arith}
use lib.ListN.{length}
use lib.Dec.{ltb}
use borrow.Author.Tests.{lt-ltb, ltb-true, ltb-false}
use Rattle.ascii.specs.Tests.{pick}
use Rattle.ascii.proofs.Choice.{picks, never}
use Rattle.numbers.specs.declared.Number.{Number}
use Rattle.numbers.specs.Number.{number_of, room}
use Rattle.numbers.proofs.Laws.{number_text}
use Rattle.fields.specs.Field.{cap_of}

abbrev Cap : Bool → ℕ → ℕ → Type 0
Cap t v k = (t ≡ true → v < k) × (v < k → t ≡ true)

one : (m : Bool) (v : ℕ) → Cap (pick (ltb v 10) (pick m false true) false) v (pick m 0 10)
one true v = (λ t. never (picks (λ (b : Bool). b ≡ true → false ≡ true) (ltb v 10) false false (λ _ x. x) (λ _ x. x) t), λ h. absurd (omega arith))
one false v = (
  picks (λ (b : Bool). b ≡ true → v < 10) (ltb v 10) true false (λ t _. ltb-true v 10 t) (λ _ x. never x),
  λ h. rw (lt-ltb v 10 h),
)

more : (m : Bool) (v n k : ℕ) (r : Bool) → Cap r (v / 10) k → Cap (pick (ltb v 10) (pick m (ltb 0 (suc n)) true) r) v (10 * max 1 k)
more m v n k r c = (
  picks (λ (b : Bool). b ≡ true → v < 10 * max 1 k) (ltb v 10) _ r
      (λ t _. let h = ltb-true v 10 t in omega arith)
      (λ _ x. let h = c.0 x in omega arith),
  λ h.
      picks (λ (b : Bool). b ≡ true) (ltb v 10) _ r (λ _. lead m) (λ t. let g = ltb-false v 10 t in c.1 (omega arith)),
)
  where
    lead : (m : Bool) → pick m (ltb 0 (suc n)) true ≡ true
    lead true = lt-ltb 0 (suc n) (omega arith)
    lead false = refl

pub cap_law : (n e : ℕ) (m : Bool) (v : ℕ) → Cap (room n e m v) v (cap_of n e m)
unfolding room
cap_law zero e m v = (λ t. never t, λ h. absurd (omega arith))
cap_law (suc zero) zero m v = one m v
cap_law (suc (suc n)) zero m v = more m v n (cap_of (suc n) 0 m) (room (suc n) 0 m (v / 10)) (cap_law (suc n) 0 m (v / 10))
cap_law (suc n) (suc zero) m v = cap_law n 0 m v
cap_law (suc n) (suc (suc e)) m v = let c = cap_law n (suc e) m (v / 10) in (λ t. let h = c.0 t in omega arith, λ h. c.1 (omega arith))

-- what the code needs before it makes an `i32` of a number
pub small : (l : List ℕ) (at n e : ℕ) (h : Number) (m : Bool) → h ≡ number_of l at n e → at + n ≤ length l → h.good ≡ true → h.minus ≡ m → cap_of n e m ≤ 1000000000 → h.mag ≤ 1000000000
small l at n e h m q k g r b =
    let t = number_text l at n e k (rw q at g) in
    let w : h.mag < cap_of n e h.minus = rw q ((cap_law n e (number_of l at n e).minus (number_of l at n e).mag).0 t.1) in
    let u : cap_of n e h.minus ≤ 1000000000 = rw r b in
    omega arith
