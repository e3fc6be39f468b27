-- The hits of a text, line by line; and that a hit is what the rules between lines take for an atom's line.
-- Assumes nothing.
use Prim.Native.Nat.{ℕ, ◌≤◌}
use mathlib.Core.List.{List}
use mathlib.Core.Bool.{Bool, true, false}
use mathlib.Core.Path.{◌≡◌, refl}
use native.Mathlib.Omega.{arith}
use borrow.Author.Tests.{ne_eqb, eq-eqb, ltb-true, ltb-false}
use lib.Dec.{eqb, ltb}
use lib.ListN.{length, get_or, take, length-take}
use Rattle.ascii.specs.Tests.{pick, both}
use Rattle.ascii.proofs.Choice.{picks}
use Rattle.columns.specs.Columns.{clean_at}
use Rattle.kinds.specs.declared.Kind.{Kind}
use Rattle.kinds.specs.Kinds.{is_named, kind_of}
use Rattle.std.specs.Prelude.{Ok, Err}
use Rattle.line.specs.declared.unread.Unread.TheVariants as unread
use Rattle.line.specs.declared.unread.Misread.TheVariants.{Refused}
use Rattle.line.specs.Lines.{Reading, reading_of, answer_of, read_line}
use Rattle.pieces.specs.declared.Line.{Line}
use Rattle.pieces.specs.declared.Line.TheVariants.{Bad, Carried}
use Rattle.pieces.specs.Pieces.{line_in, columns_of, line_of}
use Rattle.rows.specs.Text.{piece_at, row}
use Rattle.serials.specs.Known.{is_site}
use Rattle.jump.specs.Jumping.{read_atom, is_hit}
use Rattle.refusals.specs.declared.Refusal.TheVariants as refusal

-- ---- a piece by itself
-- what a line of 80 columns reads to is the same, asked for by itself or in a text
read_alike : (x : ℕ) (k : Kind) (r : Reading) → read_atom x (answer_of r) ≡ is_site x (line_in k r)
read_alike x k (Ok r) = refl
read_alike x k (Err (unread.Wrong column)) = refl
read_alike x k (Err unread.Untyped) = picks (λ (l : Line). false ≡ is_site x l) (is_named k) (Carried k) (Bad refusal.Name) (λ _. refl) (λ _. refl)

columns_alike : (x : ℕ) (l : List ℕ) → length l ≡ 80 → read_atom x (read_line l) ≡ is_site x (columns_of l)
unfolding read_line columns_of
columns_alike x l h = rw (eq-eqb (length l) 80 h) (go (clean_at l 0 80))
  where
    go : (b : Bool) → read_atom x (pick b (answer_of (reading_of (kind_of l) l)) (Err (Refused refusal.Byte))) ≡ is_site x (pick b (line_in (kind_of l) (reading_of (kind_of l) l)) (Bad refusal.Byte))
    go true = read_alike x (kind_of l) (reading_of (kind_of l) l)
    go false = refl

pub short_misses : (x : ℕ) (p : List ℕ) → (length p ≡ 81 → ⊥) → is_hit x p ≡ false
unfolding is_hit both
short_misses x p h = rw (ne_eqb (length p) 81 h)

hit_alike : (x : ℕ) (p : List ℕ) → length p ≤ 81 → is_hit x p ≡ is_site x (line_of p)
unfolding line_of is_hit both
hit_alike x p h = go (ltb (length p) 81) refl
  where
    ends : length p ≡ 81 → (b : Bool) → both b (read_atom x (read_line (take 80 p))) ≡ is_site x (pick b (columns_of (take 80 p)) (Bad refusal.LineEnd))
    ends e true = columns_alike x (take 80 p) (simp length-take (omega arith))
    ends e false = refl

    go : (b : Bool) → ltb (length p) 81 ≡ b → is_hit x p ≡ is_site x (pick b (Bad refusal.Length) (pick (eqb (get_or p 80 0) 10) (columns_of (take 80 p)) (Bad refusal.LineEnd)))
    go true u = short_misses x p (λ e. omega (arith, ltb-true (length p) 81 u))
    go false u =
        let e : length p ≡ 81 = omega (arith, ltb-false (length p) 81 u) in
        rw (eq-eqb (length p) 81 e) (ends e (eqb (get_or p 80 0) 10))

-- the same of a piece as the code is lent it
pub hit_told : (x : ℕ) (t : List ℕ) (i : ℕ) (p : List ℕ) → p ≡ piece_at t i → is_hit x (piece_at t i) ≡ is_site x (line_of p)
unfolding piece_at
hit_told x t i p e = rw e (hit_alike x (piece_at t i) (simp length-take (omega arith)))

pub hit_site : (x : ℕ) (t : List ℕ) (i : ℕ) → is_hit x (piece_at t i) ≡ is_site x (row t i)
unfolding row
hit_site x t i = hit_told x t i (piece_at t i) refl
