use Rattle.words.specs.Words.{word_at}
use mathlib.Core.Path.{◌≡◌}
use Prim.Native.Nat.{◌^◌, ◌<◌}
use Rattle.words.proofs.word.Given as goal

abbrev pub invariant-loop-b : goal.invariant-loop-b
invariant-loop-b l = (l.w < 256 ^ l.b-index) × (l.w ≡ word_at l.line l.at l.b-index)
