-- What a kind's reader and writer answer is what is said of a line. Assumes nothing.
use mathlib.Core.Path.{◌≡◌, ◌∙◌, ap}
use mathlib.Core.List.{List}
use mathlib.Core.Bool.{Bool, true, false}
use Prim.Native.Nat.{ℕ, zero, suc}
use native.Mathlib.Omega.{arith}
use lib.ListN.{length}
use borrow.Author.Tests.{eq-eqb, ne_eqb}
use Rattle.std.specs.Prelude.{Ok, Err}
use Rattle.columns.specs.declared.Column.{Column}
use Rattle.columns.specs.Columns.{clean_at}
use Rattle.columns.specs.Answers.{read_as}
use Rattle.refusals.specs.declared.Refusal.TheVariants.{Length, Byte}
use Rattle.kinds.specs.declared.Kind.{Kind}
use Rattle.kinds.specs.Kinds.{kind_of}
use Rattle.line.specs.declared.Record.{Record}
use Rattle.line.specs.declared.unread.Unread.TheVariants.{Wrong}
use Rattle.line.specs.declared.unread.Misread.TheVariants.{Refused}
use Rattle.line.specs.Lines.{Reading, judged, reading_of, answer_of, read_line}

-- ---- a kind of line
pub judged_good : {A : Type 0} (wrap : A → Record) (fault : ℕ) (value a : A) → Ok a ≡ read_as fault value → Ok (wrap a) ≡ judged fault (wrap value)
unfolding judged
judged_good wrap zero value a e = let q : a ≡ value = cc in rw q
judged_good wrap (suc f) value a e = cc

pub judged_wrong : {A : Type 0} (fault : ℕ) (value : A) (r : Record) (c : Column) → Err c ≡ read_as fault value → Err (Wrong c) ≡ judged fault r
unfolding judged
judged_wrong zero value r c e = cc
judged_wrong (suc f) value r c e = let q : c ≡ record { 0 = suc f } = cc in rw (q, ne_eqb (suc f) 0 (λ z. absurd (omega arith)))

-- ---- any line, and the columns m that it is taken for
pub line_short : (l : List ℕ) → (length l ≡ 80 → ⊥) → Err (Refused Length) ≡ read_line l
unfolding read_line
line_short l z = rw (ne_eqb _ _ z)

module _ (l m : List ℕ) (h : length l ≡ 80) (e : m ≡ l) where
  pub line_odd : false ≡ clean_at m 0 80 → Err (Refused Byte) ≡ read_line l
  unfolding read_line
  line_odd f = rw (eq-eqb _ _ h, ← e, ← f)

  pub line_read : (k : Kind) (r : Reading) → true ≡ clean_at m 0 80 → k ≡ kind_of m → r ≡ reading_of k m → answer_of r ≡ read_line l
  unfolding read_line
  line_read k r t ek er = rw (eq-eqb _ _ h, ← e, ← t) (ap answer_of (er ∙ ap (λ x. reading_of x m) ek))
