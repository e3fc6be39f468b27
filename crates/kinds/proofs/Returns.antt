-- One law for each `return` of `kind_of`. Assumes nothing.
use mathlib.Core.Path.{◌≡◌, ◌∙◌, ap}
use mathlib.Core.List.{List}
use Prim.Native.Nat.{ℕ, ◌≤◌, ◌<◌}
use lib.ListN.{length}
use borrow.Author.Tests.{lt-ltb, le-ltb}
use Rattle.words.specs.Words.{word_at}
use Rattle.kinds.specs.declared.Kind.{Kind}
use Rattle.kinds.specs.declared.Kind.TheVariants.{Unknown}
use Rattle.kinds.specs.Kinds.{kind_named, kind_of}

pub no_name : (l : List ℕ) → length l < 6 → Unknown ≡ kind_of l
unfolding kind_of
no_name l h = rw (lt-ltb _ _ h)

pub by_name : (l : List ℕ) (w : ℕ) (k : Kind) → 6 ≤ length l → w ≡ word_at l 0 6 → k ≡ kind_named w → k ≡ kind_of l
unfolding kind_of
by_name l w k h e f = rw (le-ltb _ _ h) (f ∙ ap kind_named e)
