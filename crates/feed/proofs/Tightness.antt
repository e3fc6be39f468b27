-- Lowest and highest bound every drawn atom, and each is reached by one. So the frame depends on which slots there are, and not on their order.
-- Assumes nothing.
use mathlib.Core.Path.{◌≡◌, refl, sym, ap, ◌∙◌}
use mathlib.Core.Logic.{◌⊎◌, inl, inr, ⊎_elim}
use mathlib.Core.Bool.{true}
use mathlib.Core.List.{List, [], ◌∷◌}
use lib.IntN.{ℤ}
use lib.Signed.{lt_z, ◌≤ℤ◌, ≤ℤ_refl}
use Rattle.ascii.proofs.Choice.{picks, never}
use Rattle.slots.specs.declared.Slot.{Slot}
use Rattle.feed.specs.declared.Span.{Span}
use Rattle.feed.specs.declared.Bounds.{Bounds}
use Rattle.feed.specs.declared.Extent.{Extent}
use Rattle.std.specs.Prelude.{Option, Some, None, Ok, Err}
use Rattle.feed.specs.Feed.{is_drawn}
use Rattle.feed.specs.Frame.{lower, higher, at, widened, no_bounds, around, taken_in, bounds_from, framed_of, frame_of}
use Rattle.feed.specs.Promise.{Among, DrawnAmong, at_x, at_y, at_z, Reached, Tight, TightAll, Bounding, Framing}
use Rattle.feed.proofs.Order.{le_through, le_same, low_left, low_right, high_left, high_right}

abbrev Slots : Type 1
Slots = Slot → Type 0

-- ---- the same slots under another name
module _ (P Q : Slots) (f : (a : Slot) → P a → Q a) (g : (a : Slot) → Q a → P a) where
  reached_of : (axis : Slot → ℤ) (n : ℤ) → Reached P axis n → Reached Q axis n
  reached_of axis n r = record { slot = r.slot; one = f r.slot r.one; there = r.there }

  tight_of : (axis : Slot → ℤ) (s : Span) → Tight P axis s → Tight Q axis s
  tight_of axis s t = record {
    above = λ a q. t.above a (g a q);
    below = λ a q. t.below a (g a q);
    lowest = reached_of axis s.low t.lowest;
    highest = reached_of axis s.high t.highest;
  }

  bounding_of : (b : Option Bounds) → Bounding P b → Bounding Q b
  bounding_of None h = λ a q. h a (g a q)
  bounding_of (Some b) h = record { x = tight_of at_x b.x h.x; y = tight_of at_y b.y h.y; z = tight_of at_z b.z h.z }

-- ---- one slot more
abbrev With : Slots → Slot → Slots
With P s a = (a ≡ s) ⊎ P a

module _ (P : Slots) (axis : Slot → ℤ) (s : Slot) where
  itself : Reached (With P s) axis (axis s)
  itself = record { slot = s; one = inl refl; there = refl }

  earlier : (n : ℤ) → Reached P axis n → Reached (With P s) axis n
  earlier n r = record { slot = r.slot; one = inr r.one; there = r.there }

  tight_first : ((a : Slot) → P a → ⊥) → Tight (With P s) axis (at (axis s))
  tight_first none = record {
    above = λ a w. ⊎_elim (λ (e : a ≡ s). rw e (≤ℤ_refl (axis s))) (λ p. absurd (none a p)) w;
    below = λ a w. ⊎_elim (λ (e : a ≡ s). rw e (≤ℤ_refl (axis s))) (λ p. absurd (none a p)) w;
    lowest = itself;
    highest = itself;
  }

  tight_more : (r : Span) → Tight P axis r → Tight (With P s) axis (widened r (axis s))
  unfolding widened lower higher
  tight_more r t = record {
    above = λ a w. ⊎_elim
        (λ (e : a ≡ s). rw e (low_right r.low (axis s)))
        (λ p. le_through (lower r.low (axis s)) r.low (axis a) (low_left r.low (axis s)) (t.above a p)) w;
    below = λ a w. ⊎_elim
        (λ (e : a ≡ s). rw e (high_right r.high (axis s)))
        (λ p. le_through (axis a) r.high (higher r.high (axis s)) (t.below a p) (high_left r.high (axis s))) w;
    lowest = picks (Reached (With P s) axis) (lt_z (axis s) r.low) (axis s) r.low (λ _. itself) (λ _. earlier r.low t.lowest);
    highest = picks (Reached (With P s) axis) (lt_z r.high (axis s)) (axis s) r.high (λ _. itself) (λ _. earlier r.high t.highest);
  }

bounding_around : (P : Slots) (b : Option Bounds) (s : Slot) → Bounding P b → TightAll (With P s) (around b s.position)
bounding_around P None s h = record { x = tight_first P at_x s h; y = tight_first P at_y s h; z = tight_first P at_z s h }
bounding_around P (Some b) s h = record { x = tight_more P at_x s b.x h.x; y = tight_more P at_y s b.y h.y; z = tight_more P at_z s b.z h.z }

-- ---- one slot more, if it is drawn
abbrev Plus : Slots → Slot → Slots
Plus P s a = ((a ≡ s) × (is_drawn a ≡ true)) ⊎ P a

bounding_taken : (P : Slots) (b : Option Bounds) (s : Slot) → Bounding P b → Bounding (Plus P s) (taken_in b s)
unfolding taken_in
bounding_taken P b s h =
    picks (Bounding (Plus P s)) (is_drawn s) (Some (around b s.position)) b
    (λ e. bounding_of (With P s) (Plus P s)
    (λ a w. ⊎_elim (λ (q : a ≡ s). inl (q, rw q e)) (λ p. inr p) w)
    (λ a w. ⊎_elim (λ (q : (a ≡ s) × (is_drawn a ≡ true)). inl q.0) (λ p. inr p) w)
    (Some (around b s.position)) (bounding_around P b s h))
    (λ e. bounding_of P (Plus P s)
    (λ a p. inr p)
    (λ a w. ⊎_elim (λ (q : (a ≡ s) × (is_drawn a ≡ true)). never (sym e ∙ sym (ap is_drawn q.0) ∙ q.1)) (λ p. p) w)
    b h)

-- ---- some slots more
bounding_from : (P : Slots) (b : Option Bounds) (ss : List Slot) → Bounding P b → Bounding (λ a. P a ⊎ DrawnAmong ss a) (bounds_from b ss)
unfolding bounds_from
bounding_from P b [] h = bounding_of P (λ a. P a ⊎ DrawnAmong [] a) (λ a p. inl p) (λ a w. ⊎_elim (λ p. p) (λ (q : DrawnAmong [] a). absurd q.0) w) b h
bounding_from P b (s ∷ ss) h =
    bounding_of (λ a. Plus P s a ⊎ DrawnAmong ss a) (λ a. P a ⊎ DrawnAmong (s ∷ ss) a) there back
    (bounds_from (taken_in b s) ss) (bounding_from (Plus P s) (taken_in b s) ss (bounding_taken P b s h))
  where
    there : (a : Slot) → Plus P s a ⊎ DrawnAmong ss a → P a ⊎ DrawnAmong (s ∷ ss) a
    there a (inl (inl q)) = inr (inl q.0, q.1)
    there a (inl (inr p)) = inl p
    there a (inr d) = inr (inr d.0, d.1)

    back : (a : Slot) → P a ⊎ DrawnAmong (s ∷ ss) a → Plus P s a ⊎ DrawnAmong ss a
    back a (inl p) = inl (inr p)
    back a (inr (inl e, d)) = inl (inl (e, d))
    back a (inr (inr m, d)) = inr (m, d)

-- lowest and highest bound every drawn slot and are reached, or no slot is drawn
pub bounding : (ss : List Slot) → Bounding (DrawnAmong ss) (bounds_from no_bounds ss)
bounding ss =
    bounding_of (λ a. ⊥ ⊎ DrawnAmong ss a) (DrawnAmong ss) (λ a w. ⊎_elim (λ (p : ⊥). absurd p) (λ d. d) w) (λ a d. inr d) (bounds_from no_bounds ss)
    (bounding_from (λ a. ⊥) no_bounds ss (λ a p. p))

-- ---- the frame
pub frame_bounds : (ss : List Slot) (e : Extent) → frame_of ss ≡ Ok e → Framing ss e
unfolding framed_of
frame_bounds ss e h = go (bounds_from no_bounds ss) (bounding ss) h
  where
    go : (b : Option Bounds) → Bounding (DrawnAmong ss) b → framed_of b ≡ Ok e → Framing ss e
    go None k q = cc
    go (Some b) k q = record { bounds = b; made = (cc); bounding = k }

-- 19 exactly where no slot is drawn
pub frame_refused : (ss : List Slot) → frame_of ss ≡ Err 19 → (a : Slot) → DrawnAmong ss a → ⊥
unfolding framed_of
frame_refused ss h = go (bounds_from no_bounds ss) (bounding ss) h
  where
    go : (b : Option Bounds) → Bounding (DrawnAmong ss) b → framed_of b ≡ Err 19 → (a : Slot) → DrawnAmong ss a → ⊥
    go None k q = k
    go (Some b) k q = λ a d. cc

pub refused_frame : (ss : List Slot) → ((a : Slot) → DrawnAmong ss a → ⊥) → frame_of ss ≡ Err 19
unfolding framed_of
refused_frame ss none = go (bounds_from no_bounds ss) (bounding ss)
  where
    go : (b : Option Bounds) → Bounding (DrawnAmong ss) b → framed_of b ≡ Err 19
    go None k = refl
    go (Some b) k = absurd (none k.x.lowest.slot k.x.lowest.one)

-- ---- there is one such frame
module _ (P : Slots) (axis : Slot → ℤ) (s t : Span) (h : Tight P axis s) (k : Tight P axis t) where
  low_under : s.low ≤ℤ t.low
  low_under = rw k.lowest.there at (h.above k.lowest.slot k.lowest.one)

  high_over : t.high ≤ℤ s.high
  high_over = rw k.highest.there at (h.below k.highest.slot k.highest.one)

pub tight_one : (P : Slots) (axis : Slot → ℤ) (s t : Span) → Tight P axis s → Tight P axis t → s ≡ t
tight_one P axis s t h k =
    let p = le_same s.low t.low (low_under P axis s t h k) (low_under P axis t s k h) in
    let q = le_same s.high t.high (high_over P axis t s k h) (high_over P axis s t h k) in
    λ i. record { low = p i; high = q i }

same_frame : (P : Slots) (b c : Option Bounds) → Bounding P b → Bounding P c → framed_of b ≡ framed_of c
same_frame P None None h k = refl
same_frame P None (Some c) h k = absurd (h k.x.lowest.slot k.x.lowest.one)
same_frame P (Some b) None h k = absurd (k h.x.lowest.slot h.x.lowest.one)
same_frame P (Some b) (Some c) h k =
    ap (λ (d : Bounds). framed_of (Some d)) (λ i. record {
      x = tight_one P at_x b.x c.x h.x k.x i;
      y = tight_one P at_y b.y c.y h.y k.y i;
      z = tight_one P at_z b.z c.z h.z k.z i;
    })

-- slots in another order, or written twice, have the same frame
pub order_free : (xs ys : List Slot) → ((a : Slot) → Among xs a → Among ys a) → ((a : Slot) → Among ys a → Among xs a) → frame_of xs ≡ frame_of ys
order_free xs ys f g =
    same_frame (DrawnAmong xs) (bounds_from no_bounds xs) (bounds_from no_bounds ys) (bounding xs)
    (bounding_of (DrawnAmong ys) (DrawnAmong xs) (λ a d. (g a d.0, d.1)) (λ a d. (f a d.0, d.1)) (bounds_from no_bounds ys) (bounding ys))
