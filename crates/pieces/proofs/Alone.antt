-- A piece with a wrong field, and one that is refused by itself, as lines read by themselves.
-- Assumes nothing.
use Prim.Native.Nat.{ℕ, ◌≤◌}
use mathlib.Core.List.{List}
use mathlib.Core.Bool.{Bool, true, false}
use mathlib.Core.Path.{◌≡◌, ap}
use native.Mathlib.Omega.{arith}
use borrow.Author.Tests.{eq-eqb, ltb-false}
use lib.Dec.{eqb, ltb}
use lib.ListN.{length, get_or, take, length-take}
use Rattle.ascii.specs.Tests.{pick}
use Rattle.ascii.proofs.Choice.{picks}
use Rattle.columns.specs.Columns.{clean_at}
use Rattle.kinds.specs.declared.Kind.{Kind}
use Rattle.kinds.specs.Kinds.{is_named, kind_of}
use Rattle.std.specs.Prelude.{Ok, Err}
use Rattle.columns.specs.declared.Column.{Column}
use Rattle.line.specs.declared.unread.Unread.TheVariants as unread
use Rattle.line.specs.declared.unread.Misread.TheVariants as misread
use Rattle.line.specs.Lines.{Reading, Answer, reading_of, answer_of, read_line}
use Rattle.pieces.specs.declared.Line.{Line}
use Rattle.pieces.specs.declared.Line.TheVariants.{Bad, Wrong, Carried}
use Rattle.pieces.specs.Pieces.{line_in, columns_of, line_of}
use Rattle.refusals.specs.declared.Refusal.TheVariants as refusal
use Rattle.refusals.specs.declared.Refusal.{Refusal}
use Rattle.refusals.specs.Numbers.{number_of}

-- what is answered of a wrong field
abbrev pub wrong_answer : Column → Answer
wrong_answer c = Err (misread.Wrong c)

-- ---- a wrong line, read by itself
in_wrong : (k j : Kind) (c : Column) (r : Reading) → line_in j r ≡ Wrong k c → answer_of r ≡ wrong_answer c
in_wrong k j c (Ok r) e = let z : ◌≡◌ {A = ℕ} 0 1 = cc in absurd (omega arith)
in_wrong k j c (Err (unread.Wrong column)) e = let q : column ≡ c = cc in ap (λ (x : Column). wrong_answer x) q
in_wrong k j c (Err unread.Untyped) e =
    picks (λ (l : Line). l ≡ Wrong k c → Err (misread.Refused refusal.Name) ≡ wrong_answer c) (is_named j) (Carried j) (Bad refusal.Name)
    (λ _ f. let z : ◌≡◌ {A = ℕ} 0 1 = cc in absurd (omega arith)) (λ _ f. let z : ◌≡◌ {A = ℕ} 0 1 = cc in absurd (omega arith)) e

columns_wrong : (k : Kind) (c : Column) (l : List ℕ) → length l ≡ 80 → columns_of l ≡ Wrong k c → read_line l ≡ wrong_answer c
unfolding columns_of read_line
columns_wrong k c l h = rw (eq-eqb (length l) 80 h) (go (clean_at l 0 80))
  where
    go : (b : Bool) → pick b (line_in (kind_of l) (reading_of (kind_of l) l)) (Bad refusal.Byte) ≡ Wrong k c → pick b (answer_of (reading_of (kind_of l) l)) (Err (misread.Refused refusal.Byte)) ≡ wrong_answer c
    go true e = in_wrong k (kind_of l) c (reading_of (kind_of l) l) e
    go false e = let z : ◌≡◌ {A = ℕ} 0 1 = cc in absurd (omega arith)

pub piece_wrong : (k : Kind) (c : Column) (p : List ℕ) → line_of p ≡ Wrong k c → read_line (take 80 p) ≡ wrong_answer c
unfolding line_of
piece_wrong k c p =
    picks P (ltb (length p) 81) (Bad refusal.Length) _ (λ _. bad refusal.Length)
    (λ u. picks P (eqb (get_or p 80 0) 10) (columns_of (take 80 p)) (Bad refusal.LineEnd)
    (λ _. let h : 81 ≤ length p = ltb-false (length p) 81 u in columns_wrong k c (take 80 p) (simp length-take (omega arith))) (λ _. bad refusal.LineEnd))
  where
    P : Line → Type 0
    P l = l ≡ Wrong k c → read_line (take 80 p) ≡ wrong_answer c

    bad : (n : Refusal) → P (Bad n)
    bad n e = let z : ◌≡◌ {A = ℕ} 0 1 = cc in absurd (omega arith)

-- ---- the number of a piece that is refused by itself
in_low : (j : Kind) (r : Reading) (n : Refusal) → line_in j r ≡ Bad n → number_of n ≤ 4
in_low j (Ok r) n e = let z : ◌≡◌ {A = ℕ} 0 1 = cc in absurd (omega arith)
in_low j (Err (unread.Wrong column)) n e = let z : ◌≡◌ {A = ℕ} 0 1 = cc in absurd (omega arith)
in_low j (Err unread.Untyped) n e =
    picks (λ (l : Line). l ≡ Bad n → number_of n ≤ 4) (is_named j) (Carried j) (Bad refusal.Name)
    (λ _ f. let z : ◌≡◌ {A = ℕ} 0 1 = cc in absurd (omega arith)) (λ _ f. let q : refusal.Name ≡ n = cc in rw (← q) (omega arith)) e

pub bad_low : (p : List ℕ) (n : Refusal) → line_of p ≡ Bad n → number_of n ≤ 4
unfolding line_of columns_of
bad_low p n =
    picks P (ltb (length p) 81) (Bad refusal.Length) _ (λ _ e. let q : refusal.Length ≡ n = cc in rw (← q) (omega arith))
    (λ _. picks P (eqb (get_or p 80 0) 10) _ (Bad refusal.LineEnd)
    (λ _. picks P (clean_at (take 80 p) 0 80) _ (Bad refusal.Byte) (λ _. in_low (kind_of (take 80 p)) (reading_of (kind_of (take 80 p)) (take 80 p)) n) (λ _ e. let q : refusal.Byte ≡ n = cc in rw (← q) (omega arith)))
    (λ _ e. let q : refusal.LineEnd ≡ n = cc in rw (← q) (omega arith)))
  where
    P : Line → Type 0
    P l = l ≡ Bad n → number_of n ≤ 4
