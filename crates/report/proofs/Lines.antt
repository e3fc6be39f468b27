-- The lines of a report one by one. Assumes nothing.
use Prim.Native.Nat.{ℕ, zero, suc, ◌+◌, ◌<◌}
use mathlib.Core.List.{List, [], ◌∷◌, ◌++◌, map}
use mathlib.Core.Path.{◌≡◌, refl, sym, ◌∙◌, ap}
use native.Mathlib.Numerals.{add-one}
use native.Mathlib.Omega.{arith}
use lib.ListN.{length, get_or, take}
use Rattle.std.proofs.Common.{append_assoc, append-nil}
use Rattle.std.specs.List.{concat}
use Rattle.gate.specs.Gate.{Verdict}
use Rattle.reporting.specs.Report.{Listed}
use Rattle.report.specs.Printed.{line_of, lines_of}

-- one more of the lines
pub concat_more : (xs : List (List ℕ)) (i : ℕ) → i < length xs → concat (take i xs) ++ get_or xs i [] ≡ concat (take (suc i) xs)
concat_more [] i h = absurd (omega arith)
concat_more (x ∷ xs) zero h = sym (append-nil x)
concat_more (x ∷ xs) (suc i) h = append_assoc x (concat (take i xs)) (get_or xs i []) ∙ ap (λ l. x ++ l) (concat_more xs i (omega arith))

-- the line with index i has the key and the number with that index
pub line_at : (ls : List Listed) (v : Verdict) (i : ℕ) → i < length ls
    → get_or (lines_of ls v) i [] ≡ line_of (get_or (map (λ l. l.key) ls) i []) (get_or (map (λ l. l.number v) ls) i 0)
line_at [] v i h = absurd (omega arith)
line_at (l ∷ ls) v zero h = refl
line_at (l ∷ ls) v (suc i) h = line_at ls v i (omega arith)

pub count : (ls : List Listed) (v : Verdict) → length (lines_of ls v) ≡ length ls
count [] v = refl
count (l ∷ ls) v = ap suc (count ls v)

pub next_line : (ls : List Listed) (v : Verdict) (i : ℕ) → i < length ls
    → concat (take i (lines_of ls v)) ++ line_of (get_or (map (λ l. l.key) ls) i []) (get_or (map (λ l. l.number v) ls) i 0)
    ≡ concat (take (i + 1) (lines_of ls v))
next_line ls v i h =
    ap (λ (x : List ℕ). concat (take i (lines_of ls v)) ++ x) (sym (line_at ls v i h))
    ∙ concat_more (lines_of ls v) i (omega (arith, count ls v))
    ∙ ap (λ (n : ℕ). concat (take n (lines_of ls v))) (sym (add-one i))
