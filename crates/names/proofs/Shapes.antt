-- A few bytes in a row are their columns, and the columns give the bytes.
-- Assumes nothing.
use mathlib.Core.Path.{◌≡◌, refl, sym, ◌∙◌, ap, ap₂}
use mathlib.Core.List.{List, [], ◌∷◌}
use mathlib.Core.Bool.{Bool, true}
use Prim.Native.Nat.{ℕ, zero, suc, ◌+◌, ◌≤◌}
use native.Mathlib.Omega.{arith}
use native.Mathlib.Nat.{add-zero}
use lib.ListN.{length, get_or, drop}
use lib.Seq.{get_or-drop, get_or-take}
use Rattle.columns.specs.Columns.{cols}
use Rattle.columns.proofs.Faults.{blame_none, blame_good}
use Rattle.ascii.proofs.Clean.{Fine}
use Rattle.fields.specs.Format.{byte_f}
use Rattle.fields.proofs.Formats.{Lawful, raw_lawful, single_lawful}
use Rattle.fields.proofs.Sides.{blame_first}
use Rattle.names.specs.Names.{name_at, name_f}
use Rattle.names.proofs.Bytes.{name_length, name_cols, name_whole}
use Rattle.names.proofs.Classes.{Tidy}

-- bytes of some columns are bytes of the line
inner : (m n : ℕ) (l : List ℕ) (at i : ℕ) → i + m ≤ n → name_at m (cols l at n) i ≡ name_at m l (at + i)
inner zero n l at i h = refl
inner (suc m) n l at i h =
    let k : at + (i + 1) ≡ at + i + 1 = omega arith in
    ap₂ ◌∷◌ (get_or-take n (drop at l) i 0 (omega arith) ∙ get_or-drop at l i 0)
    (inner m n l at (i + 1) (omega arith) ∙ ap (name_at m l) k)

-- columns that hold a name give it
pub name_back : (n : ℕ) (l name : List ℕ) (at : ℕ) → length name ≡ n → cols l at n ≡ name_at n name 0 → name_at n l at ≡ name
name_back n l name at e q =
    ap (name_at n l) (sym (add-zero at)) ∙ sym (inner n n l at 0 (omega arith)) ∙ ap (λ x. name_at n x 0) q
    ∙ name_whole n (name_at n name 0) (name_length n name 0) ∙ name_whole n name e

pub name_lawful : {begin : ℕ} (n : ℕ) (test : List ℕ → Bool) → ((name : List ℕ) → test name ≡ true → Tidy n name) → Lawful (name_f n test) begin
name_lawful n test tidy =
    single_lawful (record {
      long = λ name. name_length n name 0;
      clean = λ name k. (tidy name k).1;
      back = λ l at name k q. let v = name_back n l name at (tidy name k).0 q in (blame_good _ at (ap test v ∙ k), v);
      kept = λ l at h q. (name_whole n (name_at n l at) (name_length n l at) ∙ name_cols n l at h, blame_none _ at q);
      first = λ l at. blame_first (test (name_at n l at)) at;
      alone = λ l at. refl;
    })

-- one byte is a name of one
pub byte_lawful : {begin : ℕ} (test : ℕ → Bool) → ((b : ℕ) → test b ≡ true → Fine b) → Lawful (byte_f test) begin
byte_lawful test clean =
    raw_lawful 1 (λ l at. get_or l at 0) (λ b. b ∷ []) test
    (record { long = λ b. refl; there = λ l at h. name_cols 1 l at h; same = λ l at b q. ap (λ x. get_or x 0 0) (name_back 1 l (b ∷ []) at refl q) })
    (λ b k. (clean b k, tt))
