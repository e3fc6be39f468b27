-- A kind that is in its place follows one of the places that it may follow; what is asked of the kinds between MODEL and ENDMDL. Assumes nothing.
use mathlib.Core.Path.{◌≡◌, sym}
use mathlib.Core.Bool.{Bool, true, false, not, ◌&&◌}
use Prim.Native.Nat.{ℕ, ◌≤◌}
use lib.Dec.{leb}
use borrow.Author.Tests.{leb-true, ne_eqb}
use Rattle.ascii.specs.Tests.{both, pick}
use Rattle.ascii.proofs.Bools.{and_both}
use Rattle.ascii.proofs.Choice.{not_false, both_split}
use Rattle.kinds.specs.declared.Kind.{Kind}
use Rattle.kinds.specs.declared.Kind.TheVariants.{Model, Endmdl}
use Rattle.kinds.specs.declared.Row.{Row}
use Rattle.kinds.specs.Kinds.{row_of, is}
use Rattle.kinds.proofs.First.{same_name}
use Rattle.places.specs.declared.Models.{Models}
use Rattle.places.specs.Places.{place_bad, fence_bad}

both_yes : (a b : Bool) → not (both a b) ≡ false → (a ≡ true) × (b ≡ true)
both_yes a b e = both_split a b (not_false (both a b) e)

pub place_low : (p : ℕ) (k : Kind) → place_bad p k ≡ false → (row_of k).low ≤ p
unfolding place_bad
place_low p k e = leb-true (row_of k).low p (both_yes (leb (row_of k).low p) (leb p (row_of k).high) e).0

pub place_high : (p : ℕ) (k : Kind) → place_bad p k ≡ false → p ≤ (row_of k).high
unfolding place_bad
place_high p k e = leb-true p (row_of k).high (both_yes (leb (row_of k).low p) (leb p (row_of k).high) e).1

other : (a k : Kind) → (k ≡ a → ⊥) → is a k ≡ false
other a k n = ne_eqb (row_of a).name (row_of k).name (λ q. n (sym (same_name a k q)))

-- a kind that is neither MODEL nor ENDMDL, whether it has a slot told apart
pub fence_other : (last : ℕ) (m : Models) (k : Kind) (r : Row) (t : Bool) → (k ≡ Model → ⊥) → (k ≡ Endmdl → ⊥) → r ≡ row_of k → r.slot ≡ t
    → pick t (m.past && not m.inside) m.inside ≡ fence_bad last m k
unfolding fence_bad
fence_other last m k r t a b e s = rw (other Model k a, other Endmdl k b, ← e, s, and_both)
