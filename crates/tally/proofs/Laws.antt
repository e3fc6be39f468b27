-- What is counted, by the outcome of each test.
-- Assumes nothing.
use mathlib.Core.Path.{◌≡◌, refl, sym, ap, ◌∙◌}
use mathlib.Core.List.{List}
use mathlib.Core.Bool.{Bool, true, false}
use Prim.Native.Nat.{ℕ, ◌≤◌, ◌<◌}
use borrow.Author.Tests.{lt-ltb, le-ltb}
use Rattle.kinds.specs.declared.Kind.{Kind}
use Rattle.kinds.specs.Kinds.{is_named, kind_of}
use Rattle.master.specs.declared.Tally.{Tally}
use Rattle.places.specs.Counts.{count_at}
use Rattle.tally.specs.Tally.{Counted, most, count_in, raised_tally, told_tally, tally_step, tally_line}

-- ---- a step
pub step_raised : (t u : Tally) (which n : ℕ) → n ≡ count_in t which → n < most → u ≡ raised_tally t which → told_tally 0 u ≡ tally_step t which
unfolding tally_step
step_raised t u which n e h q = rw (← e, lt-ltb _ _ h, q)

pub step_full : (t : Tally) (which n : ℕ) → n ≡ count_in t which → most ≤ n → told_tally 14 t ≡ tally_step t which
unfolding tally_step
step_full t which n e h = rw (← e, le-ltb _ _ h)

pub step_none : (t : Tally) → told_tally 0 t ≡ tally_step t 0
unfolding tally_step count_in raised_tally
step_none t = refl

-- ---- a line
module _ (past : Bool) (t : Tally) (l : List ℕ) (k : Kind) (named : Bool) (ek : k ≡ kind_of l) (en : named ≡ is_named k) where
  pub line_named : (which : ℕ) (r : Counted) → named ≡ true → which ≡ count_at past k → r ≡ tally_step t which → r ≡ tally_line past t l
  unfolding tally_line
  line_named which r h e q = rw (← ek, sym en ∙ h) (q ∙ ap (tally_step t) e)

  pub line_unknown : named ≡ false → told_tally 4 t ≡ tally_line past t l
  unfolding tally_line
  line_unknown h = rw (← ek, sym en ∙ h)
