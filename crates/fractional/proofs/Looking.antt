-- What the code of the search and of the place gives, put together.
-- Assumes nothing.
use mathlib.Core.Path.{◌≡◌, sym, ◌∙◌, ap}
use mathlib.Core.List.{List}
use mathlib.Core.Bool.{Bool, true, false}
use Prim.Native.Nat.{ℕ, zero, suc, ◌+◌, ◌-◌, ◌/◌, ◌≤◌, ◌<◌}
use native.Mathlib.Omega.{arith}
use lib.ListN.{length}
use lib.IntN.{ℤ, nat_abs}
use mir.Syntax.{w32, w64}
use mir.Val.{SFits, to_z, of_z}
use borrow.Author.Tests.{ne_eqb, le-leb, lt-leb}
use Rattle.std.specs.Prelude.{Result, Ok, Err}
use Rattle.ascii.specs.Tests.{pick}
use Rattle.ascii.proofs.Choice.{picks}
use Rattle.coordinate.specs.declared.Position.{Position}
use Rattle.coordinate.specs.Atoms.{position_f}
use Rattle.transform.specs.declared.Transform.{Transform}
use Rattle.gate.specs.Gate.{Verdict}
use Rattle.gate.specs.Gate.{check_of}
use Rattle.fractional.specs.declared.Rows.{Rows}
use Rattle.fractional.specs.declared.Fraction.{Fraction}
use Rattle.fractional.specs.Scale.{is_scale, scale_from, scale_at, rows_at, scale_of}
use Rattle.fractional.proofs.Whole.{word_abs}
use Rattle.fractional.proofs.Places.{position_abs, place_abs}
use Rattle.fractional.specs.Place.{billionths, exact_of, near_of, place_of, placed_by, fractional_of}

-- ---- the search: what is left gives the answer
pub record Sought (t : List ℕ) (i : ℕ) : Type 0 where
  pub within : i ≤ length t / 81
  pub rest : scale_from t i (length t / 81 - i) ≡ scale_at t

split : (t : List ℕ) (i n : ℕ) → i < n → scale_from t i (n - i) ≡ pick (is_scale t i) i (scale_from t (i + 1) (n - (i + 1)))
unfolding scale_from
split t i n h = let q : n - i ≡ suc (n - (i + 1)) = omega arith in rw q

pub sought_next : (t : List ℕ) (i : ℕ) → Sought t i → i < length t / 81 → is_scale t i ≡ false → Sought t (i + 1)
sought_next t i S h e = record { within = omega arith; rest = sym (split t i (length t / 81) h ∙ rw e) ∙ S.rest }

pub sought_hit : (t : List ℕ) (i : ℕ) → Sought t i → i < length t / 81 → is_scale t i ≡ true → i ≡ scale_at t
sought_hit t i S h e = sym (split t i (length t / 81) h ∙ rw e) ∙ S.rest

pub sought_over : (t : List ℕ) (i : ℕ) → Sought t i → length t / 81 ≤ i → length t / 81 ≡ scale_at t
unfolding scale_from
sought_over t i S h =
    let q : length t / 81 - i ≡ 0 = omega (arith, S.within) in
    let e : length t / 81 ≡ i = omega (arith, S.within) in
    e ∙ rw q at S.rest

-- ---- the rows
scale_high : (t : List ℕ) (i n : ℕ) → scale_from t i n ≤ i + n
unfolding scale_from
scale_high t i zero = omega arith
scale_high t i (suc n) = picks (λ (x : ℕ). x ≤ i + suc n) (is_scale t i) i (scale_from t (i + 1) n) (λ _. omega arith) (λ _. omega (arith, scale_high t (i + 1) n))

pub scale_le : (t : List ℕ) (i : ℕ) → i ≡ scale_at t → i ≤ length t / 81
scale_le t i e = rw e (omega (arith, scale_high t 0 (length t / 81)))

module _ (t : List ℕ) (v : Verdict) (e : v ≡ check_of t) where
  pub scale_own : (v.number ≡ 0 → ⊥) → Err v.number ≡ scale_of t
  unfolding scale_of
  scale_own z = rw (← e, ne_eqb _ _ z)

  module _ (ok : v.number ≡ 0) (i : ℕ) (at : i ≡ scale_at t) where
    pub scale_there : (r : Rows) → i + 3 ≤ length t / 81 → r ≡ rows_at t i → Ok r ≡ scale_of t
    unfolding scale_of
    scale_there r h q = rw (← e, ok, ← at, le-leb _ _ h, q)

    pub scale_none : length t / 81 < i + 3 → Err 29 ≡ scale_of t
    unfolding scale_of
    scale_none h = rw (← e, ok, ← at, lt-leb _ _ h)

-- ---- the place
pub place_there : (r : Rows) (p : Position) (b : Bool) (x n : Fraction) → b ≡ position_f.ok p → b ≡ true → x ≡ exact_of r p → n ≡ near_of x
    → Ok (record { exact = x; near = n }) ≡ place_of r p
unfolding place_of
place_there r p b x n e y q s = rw (sym e ∙ y, s, q)

pub place_out : (r : Rows) (p : Position) (b : Bool) → b ≡ position_f.ok p → b ≡ false → Err 33 ≡ place_of r p
unfolding place_of
place_out r p b e y = rw (sym e ∙ y)

pub place_by : (t : List ℕ) (p : Position) (s : Result Rows ℕ) → s ≡ scale_of t → placed_by s p ≡ fractional_of t p
unfolding fractional_of
place_by t p s e = ap (λ (x : Result Rows ℕ). placed_by x p) e

-- ---- what the code holds in 64 bits
abbrev held64 : ℤ → ℤ
held64 z = to_z w64 (of_z w64 z)

-- the numbers of a row are of 32 bits
abbrev pub Narrow : Transform → Type 0
Narrow r = SFits w32 r.by.x × SFits w32 r.by.y × SFits w32 r.by.z × SFits w32 r.shift

-- coordinates within their ranges
abbrev pub Near : Position → Type 0
Near p = (nat_abs p.x ≤ 9999999) × (nat_abs p.y ≤ 9999999) × (nat_abs p.z ≤ 9999999)

row_small : (r : Transform) (p : Position) → Narrow r → Near p → nat_abs (billionths r p) ≤ 200000000000000000
row_small r p f h = let a = place_abs r p 2147483648 9999999 (word_abs _ f.0) (word_abs _ f.1) (word_abs _ f.2) (word_abs _ f.3) h in omega arith

pub position_near : (p : Position) (b : Bool) → b ≡ position_f.ok p → b ≡ true → Near p
position_near p b e y = position_abs p (sym e ∙ y)

pub exact_small : (r : Rows) (p : Position) (x : Fraction) → Narrow r.x → Narrow r.y → Narrow r.z → Near p → x ≡ exact_of r p
    → (nat_abs x.x ≤ 200000000000000000) × (nat_abs x.y ≤ 200000000000000000) × (nat_abs x.z ≤ 200000000000000000)
exact_small r p x f g h n q = rw q (row_small r.x p f n, row_small r.y p g n, row_small r.z p h n)
