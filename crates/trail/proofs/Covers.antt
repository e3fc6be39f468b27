-- What a look at the lines to come spares. Assumes nothing.
use Prim.Native.Nat.{ℕ, ◌≤◌, ◌<◌}
use mathlib.Core.Bool.{true}
use mathlib.Core.List.{List}
use mathlib.Core.Logic.{⊎_elim}
use mathlib.Core.Path.{◌≡◌}
use native.Mathlib.Nat.{le_trans}
use borrow.Author.Tests.{leb-true, ltb-true}
use lib.Dec.{leb, ltb}
use Rattle.std.proofs.lemmas.Bool.{cases_lt}
use Rattle.ascii.specs.Tests.{both}
use Rattle.ascii.proofs.Choice.{both_split}
use Rattle.ahead.specs.declared.Ahead.{Ahead}
use Rattle.ahead.specs.Ahead.{Clear}
use Rattle.trail.specs.Trail.{Apart}

pub covered : (d : Ahead) (a i : ℕ) → both (leb d.a a) (both (leb d.b i) (ltb i d.c)) ≡ true → (d.a ≤ a) × (d.b ≤ i) × (i < d.c)
covered d a i e =
    let p = both_split (leb d.a a) _ e in
    let q = both_split (leb d.b i) _ p.1 in
    (leb-true _ _ p.0, leb-true _ _ q.0, ltb-true _ _ q.1)

pub apart_beyond : (t : List ℕ) (d : Ahead) (lo from i : ℕ) → Clear t d → (d.a ≤ from) × (d.b ≤ i) × (i < d.c) → Apart t lo from i → Apart t lo d.b i
apart_beyond t d lo from i C h A j g k e f =
    ⊎_elim (λ (l : j < from). A j g l e f) (λ (l : from ≤ j). C j i (le_trans h.0 l) k h.1 h.2 e f) (cases_lt j from)
