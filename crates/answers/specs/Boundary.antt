-- What the C functions answer, and what they leave in the memory that is lent to them.
use Rattle.ascii.specs.Library.{ℕ, List, [], Bool, not, eqb, ltb, length, drop, pick}
use Rattle.std.specs.Prelude.{◌∷◌, ◌++◌, Float, Option, Some, None, Result, Ok, Err}
use Rattle.fields.specs.declared.{FragmentNumber.FragmentNumber}
use Rattle.refusals.specs.Numbers.{number_of}
use Rattle.line.specs.Lines.{Answer}
use Rattle.slots.specs.declared.{Slot.Slot}
use Rattle.feed.specs.declared.{Point.Point, Ends.Ends, Extent.Extent}
use Rattle.line.specs.declared.unread.Misread.TheVariants as misread

-- the number that is returned, and what the lent memory then holds
pub record Answered (A : Type 0) : Type 0 where
  pub number : ℕ
  pub left : A

abbrev pub answered : {A : Type 0} → ℕ → A → Answered A
answered n x = record { number = n; left = x }

-- the fragment that a number names
abbrev pub fragment_number : ℕ → FragmentNumber
fragment_number n = record { 0 = n }

-- 0 puts back, any other byte sets aside
abbrev pub aside_of : ℕ → Bool
aside_of b = not (eqb b 0)

-- what is filled; a refusal leaves it as found
abbrev pub filled_answer : {A : Type 0} → Result A ℕ → A → Answered A
filled_answer (Ok x) found = answered 0 x
filled_answer (Err n) found = answered n found

-- a refused line leaves the slot as found
abbrev pub slot_answer : Result Slot ℕ → Slot → Answered Slot
slot_answer (Ok s) found = answered 0 s
slot_answer (Err n) found = answered n found

-- 17: there is no room; else the line's own bytes are the first 80; a refused line leaves all as found
abbrev pub rewrite_answer : Answer → List ℕ → List ℕ → Answered (List ℕ)
rewrite_answer (Ok r) l found = pick (ltb (length found) 80) (answered 17 found) (answered 0 (l ++ drop 80 found))
rewrite_answer (Err (misread.Refused r)) l found = answered (number_of r) found
rewrite_answer (Err (misread.Wrong column)) l found = answered 6 found

-- 1: drawn; 0: nothing to draw, all as found
abbrev pub dot_answer : Option Point → List Float → Answered (List Float)
dot_answer (Some p) found = answered 1 (p.x ∷ p.y ∷ p.z ∷ [])
dot_answer None found = answered 0 found

abbrev pub stroke_answer : Option Ends → List Float → Answered (List Float)
stroke_answer (Some e) found = answered 1 (e.from.x ∷ e.from.y ∷ e.from.z ∷ e.to.x ∷ e.to.y ∷ e.to.z ∷ [])
stroke_answer None found = answered 0 found

-- lowest, highest and middle x, y, z; a refusal leaves all as found
abbrev pub frame_answer : Result Extent ℕ → List Float → Answered (List Float)
frame_answer (Ok e) found =
    answered 0 (e.lx ∷ e.ly ∷ e.lz ∷ e.hx ∷ e.hy ∷ e.hz ∷ e.mx ∷ e.my ∷ e.mz ∷ [])
frame_answer (Err n) found = answered n found
