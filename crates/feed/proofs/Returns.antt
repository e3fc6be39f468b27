-- One law for each `return`, from what the calls before it ensure.
-- Assumes nothing.
use mathlib.Core.Path.{◌≡◌, refl, sym, ◌∙◌}
use mathlib.Core.Bool.{Bool, true, false, cond}
use Rattle.std.specs.Prelude.{Option, Some, None}
use lib.IntN.{ℤ}
use lib.Signed.{lt_z}
use lib.Ieee.{Float, binary64, add, mul, of_bits}
use mir.Syntax.{w32}
use mir.Val.{SFits, to_z, of_z}
use mir.ValLaws.{to_z-of_z}
use Rattle.std.specs.Int.{int_min, int_max}
use Rattle.ascii.specs.Tests.{pick, both}
use Rattle.ascii.proofs.Choice.{picks}
use Rattle.slots.specs.declared.Slot.{Slot}
use Rattle.feed.specs.declared.Point.{Point}
use Rattle.feed.specs.declared.Ends.{Ends}
use Rattle.feed.specs.declared.Span.{Span}
use Rattle.feed.specs.declared.Bounds.{Bounds}
use Rattle.feed.specs.Exact.{whole}
use Rattle.feed.specs.Feed.{is_drawn, point_of, dot_of, stroke_of}
use Rattle.feed.specs.Frame.{lower, higher, widened, middle_of, around, taken_in}
use Rattle.feed.proofs.Exactness.{i32_middle}

-- a number that was held is itself
abbrev held : ℤ → ℤ
held z = to_z w32 (of_z w32 z)

-- ---- dots and strokes
module _ (s : Slot) (t : Bool) (e : t ≡ is_drawn s) where
  pub dot_drawn : (p : Point) → t ≡ true → p ≡ point_of s.position → Some p ≡ dot_of s
  unfolding dot_of
  dot_drawn p h q = rw (sym e ∙ h, q)

  pub dot_none : t ≡ false → None ≡ dot_of s
  unfolding dot_of
  dot_none h = rw (sym e ∙ h)

-- a stroke is two dots
module _ (a b : Slot) where
  pub stroke_drawn : (p q : Point) → dot_of a ≡ Some p → dot_of b ≡ Some q → ◌≡◌ {A = Option Ends} (Some (record { from = p; to = q })) (stroke_of a b)
  unfolding dot_of stroke_of both
  stroke_drawn p q = go (is_drawn a) (is_drawn b)
    where
      go : (s t : Bool) → pick s (Some (point_of a.position)) None ≡ Some p → pick t (Some (point_of b.position)) None ≡ Some q
          → ◌≡◌ {A = Option Ends} (Some (record { from = p; to = q })) (pick (both s t) (Some (record { from = point_of a.position; to = point_of b.position })) None)
      go true true e f = cc
      go true false e f = cc
      go false t e f = cc

  pub stroke_from_none : dot_of a ≡ None → None ≡ stroke_of a b
  unfolding dot_of stroke_of both
  stroke_from_none = go (is_drawn a)
    where
      go : (s : Bool) → pick s (Some (point_of a.position)) None ≡ None
          → ◌≡◌ {A = Option Ends} None (pick (both s (is_drawn b)) (Some (record { from = point_of a.position; to = point_of b.position })) None)
      go true e = cc
      go false e = cc

  pub stroke_to_none : dot_of b ≡ None → None ≡ stroke_of a b
  unfolding dot_of stroke_of both
  stroke_to_none = go (is_drawn a) (is_drawn b)
    where
      go : (s t : Bool) → pick t (Some (point_of b.position)) None ≡ None
          → ◌≡◌ {A = Option Ends} None (pick (both s t) (Some (record { from = point_of a.position; to = point_of b.position })) None)
      go true true e = cc
      go true false e = cc
      go false t e = cc

-- ---- one axis
chosen : (t : Bool) (x y : ℤ) → cond t x y ≡ pick t x y
chosen true x y = refl
chosen false x y = refl

pub min_lower : (a b : ℤ) → int_min a b ≡ lower a b
unfolding lower
min_lower a b = chosen (lt_z b a) b a

pub max_higher : (a b : ℤ) → int_max b a ≡ higher a b
unfolding higher
max_higher a b = chosen (lt_z a b) b a

module _ (a b : ℤ) (fa : SFits w32 a) (fb : SFits w32 b) where
  low_fits : SFits w32 (lower a b)
  unfolding lower
  low_fits = picks (SFits w32) (lt_z b a) b a (λ _. fb) (λ _. fa)

  high_fits : SFits w32 (higher a b)
  unfolding higher
  high_fits = picks (SFits w32) (lt_z a b) b a (λ _. fb) (λ _. fa)

  low_held : (r : ℤ) → r ≡ lower (held a) (held b) → held r ≡ lower a b
  low_held r e = rw (e, to_z-of_z w32 a fa, to_z-of_z w32 b fb) (to_z-of_z w32 (lower a b) low_fits)

  high_held : (r : ℤ) → r ≡ higher (held a) (held b) → held r ≡ higher a b
  high_held r e = rw (e, to_z-of_z w32 a fa, to_z-of_z w32 b fb) (to_z-of_z w32 (higher a b) high_fits)

pub span_widened : (s : Span) (n a b : ℤ) → SFits w32 s.low → SFits w32 s.high → SFits w32 n
    → a ≡ lower (held s.low) (held n) → b ≡ higher (held s.high) (held n)
    → ◌≡◌ {A = Span} (record { low = held a; high = held b }) (widened s n)
unfolding widened
span_widened s n a b fl fh fn p q = rw (low_held s.low n fl fn a p, high_held s.high n fh fn b q)

pub span_middle : (s : Span) (a b : Float) → SFits w32 s.low → SFits w32 s.high → a ≡ whole (held s.low) → b ≡ whole (held s.high)
    → mul binary64 (add binary64 a b) (of_bits binary64 0x3fe0_0000_0000_0000) ≡ middle_of s
span_middle s a b f g p q = rw (p, q, to_z-of_z w32 _ f, to_z-of_z w32 _ g) (i32_middle f g)

-- ---- three axes
module _ (b : Option Bounds) (s : Slot) (t : Bool) (e : t ≡ is_drawn s) where
  pub take_drawn : (r : Bounds) → t ≡ true → r ≡ around b s.position → Some r ≡ taken_in b s
  unfolding taken_in
  take_drawn r h q = rw (sym e ∙ h, q)

  pub take_none : t ≡ false → b ≡ taken_in b s
  unfolding taken_in
  take_none h = rw (sym e ∙ h)
