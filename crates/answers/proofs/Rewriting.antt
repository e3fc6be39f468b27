-- A typed line that is read and written stands in the output byte for byte.
-- Assumes nothing.
use mathlib.Core.Path.{◌≡◌, refl, sym, ◌∙◌}
use mathlib.Core.List.{List}
use Prim.Native.Nat.{ℕ}
use lib.Dec.{ltb}
use lib.ListN.{length}
use Rattle.ascii.proofs.Choice.{picks}
use Rattle.fields.specs.Format.{write_number, write_line}
use Rattle.line.specs.declared.Record.{Record}
use Rattle.line.specs.Lines.{Answer, read_line, record_ok, record_line}
use Rattle.std.specs.Prelude.{Ok}
use Rattle.line.proofs.RoundTrip.{kept}
use Rattle.answers.specs.Boundary.{answered, rewrite_answer}

pub rewrite_read : (l found left : List ℕ) (n : ℕ) (a : Answer) (r : Record) → a ≡ read_line l → a ≡ Ok r
    → n ≡ write_number (record_ok r) found → left ≡ write_line (record_ok r) (record_line r) found
    → answered n left ≡ rewrite_answer (read_line l) l found
unfolding write_number write_line
rewrite_read l found left n a r e q p w =
    let h : read_line l ≡ Ok r = sym e ∙ q in
    let x = kept l r h in
    rw h
    (picks (λ z. answered n left ≡ z) (ltb (length found) 80) _ _
    (λ t. rw (p, w, x.0, x.1, t) refl)
    (λ t. rw (p, w, x.0, x.1, t) refl))
