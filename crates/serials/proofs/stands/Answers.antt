use Rattle.serials.specs.Known.{is_site}
use Rattle.rows.specs.Text.{row}
use borrow.Author.Count.{below_more}
use native.Mathlib.Omega.{arith}
use mathlib.Core.Bool.{false}
use mathlib.Core.Path.{◌≡◌, sym, ◌∙◌}
use Prim.Native.Nat.{ℕ, ◌≤◌}
use Rattle.serials.proofs.Rows.{piece_row}
use Rattle.serials.proofs.stands.Goals as goal

pub returns-then-site_in : goal.returns-then-site_in
returns-then-site_in c = (_, omega arith, c.loop-j-test.true, rw (piece_row _ _ _ c.piece_at.ensures) at (sym c.site_in.ensures ∙ c.if-site_in.true))

pub loop-j-preserved : goal.loop-j-preserved
loop-j-preserved c = λ i g h. below_more (λ (k : ℕ). c.args.lo ≤ k → is_site c.args.x.0 (row c.args.text.now k) ≡ false) _ (λ k h' g'. c.loop-j.invariant k g' h') (λ g'. rw (piece_row _ _ _ c.piece_at.ensures) at (sym c.site_in.ensures ∙ c.if-site_in.false)) i h g
