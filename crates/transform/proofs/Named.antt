-- A line that is written behind the name of its kind, where the name is worked out. Assumes nothing.
use mathlib.Core.Path.{◌≡◌}
use mathlib.Core.List.{List, ◌++◌}
use mathlib.Core.Bool.{Bool}
use Prim.Native.Nat.{ℕ}
use Rattle.fields.specs.Format.{write_line}
use Rattle.kinds.specs.declared.Kind.{Kind}
use Rattle.kinds.specs.Kinds.{row_of, name_text}
use Rattle.kinds.proofs.First.{name_bytes}
use Rattle.words.specs.Words.{bytes_of}

pub named_line : (v : ℕ) (k : Kind) (x : List ℕ) (good : Bool) (l l' : List ℕ) → v ≡ (row_of k).name
    → l' ≡ write_line good (bytes_of 6 v ++ x) l → l' ≡ write_line good (name_text k ++ x) l
named_line v k x good l l' e p = rw (name_bytes v k e) at p
