-- The MASTER line as it is written anew: 81 bytes, which read back to the counts.
-- Assumes nothing.
use Prim.Native.Nat.{ℕ, ◌+◌}
use mathlib.Core.List.{[], ◌∷◌, ◌++◌}
use mathlib.Core.Bool.{true}
use mathlib.Core.Path.{◌≡◌, refl, ◌∙◌, ap}
use native.Mathlib.Omega.{arith}
use lib.ListN.{length, length-append}
use lib.Seq.{take_at, get_or_at}
use Rattle.columns.proofs.Spans.{clean_cols}
use Rattle.fields.proofs.Formats.{line_back, line_clean, line_long}
use Rattle.kinds.specs.declared.Kind.TheVariants as kind
use Rattle.kinds.specs.Kinds.{name_text, line_with}
use Rattle.kinds.proofs.First.{kind_first}
use Rattle.line.specs.declared.Record.TheVariants.{Master}
use Rattle.line.specs.Lines.{judged, reading_of}
use Rattle.master.specs.declared.Tally.{Tally}
use Rattle.master.specs.Masters.{master_f}
use Rattle.master.proofs.Laws.{master_lawful}
use Rattle.pieces.specs.declared.Line.TheVariants.{Typed}
use Rattle.pieces.specs.Pieces.{line_of, columns_of}
use Rattle.places.specs.declared.Counts.{Counts}
use Rattle.table.specs.Deal.{tally_of, master_piece}
use Rattle.table.specs.FiveDigits.{FiveDigits}
use Rattle.table.proofs.Plain.{small_ok}

pub line_80 : (t : Tally) → length (line_with kind.Master master_f t) ≡ 80
line_80 t = line_long master_f master_lawful refl (name_text kind.Master) refl t

pub master_81 : (q : Counts) → length (master_piece q) ≡ 81
unfolding master_piece
master_81 q = length-append (line_with kind.Master master_f (tally_of q)) (10 ∷ []) ∙ ap (λ (n : ℕ). n + 1) (line_80 (tally_of q))

columns_read : (t : Tally) → master_f.ok t ≡ true → columns_of (line_with kind.Master master_f t) ≡ Typed (Master t)
unfolding columns_of reading_of judged
columns_read t ok =
    let x = line_back master_f master_lawful refl (name_text kind.Master) refl t ok in
    let c = clean_cols (line_with kind.Master master_f t) (line_clean master_f master_lawful refl (name_text kind.Master) refl tt t ok) 0 80 (omega (arith, line_80 t)) in
    rw (c, kind_first (master_f.text t) kind.Master, x.0, x.1)

-- what is written reads as what was to be written
pub master_line : (q : Counts) → FiveDigits (tally_of q) → line_of (master_piece q) ≡ Typed (Master (tally_of q))
unfolding line_of master_piece
master_line q s =
    let t = tally_of q in
    let long : length (line_with kind.Master master_f t ++ (10 ∷ [])) ≡ 81 = length-append (line_with kind.Master master_f t) (10 ∷ []) ∙ ap (λ (n : ℕ). n + 1) (line_80 t) in
    rw (long, get_or_at (line_with kind.Master master_f t) 10 [] 0 80 (line_80 t), take_at (line_with kind.Master master_f t) (10 ∷ []) 80 (line_80 t))
    (columns_read t (small_ok t s))
