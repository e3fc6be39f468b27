-- Every class of bytes is within 32 to 126, and a name of a class has as many bytes as it has columns.
-- Assumes nothing.
use mathlib.Core.Path.{◌≡◌, refl, subst}
use mathlib.Core.List.{List}
use mathlib.Core.Bool.{Bool, true, false}
use Prim.Native.Nat.{ℕ, zero, suc, ◌+◌, ◌<◌}
use native.Mathlib.Omega.{arith}
use native.Mathlib.Nat.{add-zero}
use lib.Dec.{eqb}
use lib.ListN.{length, get_or}
use borrow.Author.Tests.{eqb-true, eqb-false}
use Rattle.ascii.specs.Tests.{both, either, same, between, is_upper, is_code}
use Rattle.ascii.proofs.Choice.{both_split, either_split}
use Rattle.ascii.proofs.Clean.{Fine, Clean, fine_within, fine_is, fine_blank, fine_upper, fine_code}
use Rattle.columns.specs.Columns.{clean_at}
use Rattle.names.specs.Names.{name_at, sized, is_blank, is_chain, is_insertion, is_alternate, is_filled, is_column, is_name_byte, right_three, is_residue, is_identifier, is_charge, padded_two, padded_three, is_free, is_atom_name, is_bond_name}

-- a name of n bytes, each clean
abbrev pub Tidy : ℕ → List ℕ → Type 0
Tidy n name = (length name ≡ n) × Clean (name_at n name 0)

pub sized_split : (n : ℕ) (name : List ℕ) (holds : Bool) → sized n name holds ≡ true → (length name ≡ n) × (holds ≡ true)
unfolding both
sized_split n name holds e = let w = both_split (eqb (length name) n) holds e in (eqb-true (length name) n w.0, w.1)

-- ---- one byte
pub chain_fine : (b : ℕ) → is_chain b ≡ true → Fine b
chain_fine b = either_split (is_code b) _ (fine_code b) (fine_within 97 122 b (omega arith) (omega arith))

pub insertion_fine : (b : ℕ) → is_insertion b ≡ true → Fine b
insertion_fine b = either_split (is_blank b) (is_upper b) (fine_blank b) (fine_upper b)

pub alternate_fine : (b : ℕ) → is_alternate b ≡ true → Fine b
alternate_fine b = either_split (is_blank b) (is_code b) (fine_blank b) (fine_code b)

filled_fine : (b : ℕ) → is_filled b ≡ true → Fine b
filled_fine b = fine_within 33 126 b (omega arith) (omega arith)

name_byte_fine : (b : ℕ) → is_name_byte b ≡ true → Fine b
name_byte_fine b =
    either_split (is_code b) _ (fine_code b)
    (either_split (same b 39) (same b 42) (fine_is 39 b (omega arith) (omega arith)) (fine_is 42 b (omega arith) (omega arith)))

-- ---- a few bytes
right_three_fine : (x y z : ℕ) (a b c : Bool) → (a ≡ true → Fine x) → (b ≡ true → Fine y) → (c ≡ true → Fine z)
    → right_three a b c (is_blank x) (is_blank y) ≡ true → Fine x × (Fine y × (Fine z × Unit {0}))
right_three_fine x y z a b c fa fb fc e =
    let w = both_split c _ e in
    either_split (both b (either a (is_blank x))) (both (is_blank y) (is_blank x))
    (λ p. let q = both_split b _ p in (either_split a (is_blank x) fa (fine_blank x) q.1, (fb q.0, (fc w.0, tt))))
    (λ p. let q = both_split (is_blank y) _ p in (fine_blank x q.1, (fine_blank y q.0, (fc w.0, tt))))
    w.1

padded_two_fine : (c d : ℕ) → padded_two c d ≡ true → Fine c × (Fine d × Unit {0})
padded_two_fine c d =
    either_split (both (is_name_byte c) (either (is_name_byte d) (is_blank d))) (both (is_blank c) (is_blank d))
    (λ p. let q = both_split (is_name_byte c) _ p in (name_byte_fine c q.0, (either_split (is_name_byte d) (is_blank d) (name_byte_fine d) (fine_blank d) q.1, tt)))
    (λ p. let q = both_split (is_blank c) _ p in (fine_blank c q.0, (fine_blank d q.1, tt)))

padded_three_fine : (b c d : ℕ) → padded_three b c d ≡ true → Fine b × (Fine c × (Fine d × Unit {0}))
padded_three_fine b c d =
    either_split (both (is_name_byte b) (padded_two c d)) (both (is_blank b) (both (is_blank c) (is_blank d)))
    (λ p. let q = both_split (is_name_byte b) _ p in (name_byte_fine b q.0, padded_two_fine c d q.1))
    (λ p. let q = both_split (is_blank b) _ p in let r = both_split (is_blank c) _ q.1 in (fine_blank b q.0, (fine_blank c r.0, (fine_blank d r.1, tt))))

-- ---- names
pub residue_fine : (n : List ℕ) → is_residue n ≡ true → Tidy 3 n
residue_fine n e =
    let w = sized_split 3 n _ e in
    (w.0, right_three_fine (get_or n 0 0) (get_or n 1 0) (get_or n 2 0) _ _ _ (fine_code _) (fine_code _) (fine_code _) w.1)

pub identifier_fine : (n : List ℕ) → is_identifier n ≡ true → Tidy 3 n
identifier_fine n e =
    let w = sized_split 3 n _ e in
    (w.0, right_three_fine (get_or n 0 0) (get_or n 1 0) (get_or n 2 0) _ _ _ (filled_fine _) (filled_fine _) (filled_fine _) w.1)

pub charge_fine : (p : List ℕ) → is_charge p ≡ true → Tidy 2 p
charge_fine p e =
    let w = sized_split 2 p _ e in
    let x : ℕ = get_or p 0 0 in
    let y : ℕ = get_or p 1 0 in (
      w.0,
      either_split (both (is_blank x) (is_blank y)) _
          (λ e. let q = both_split (is_blank x) _ e in (fine_blank x q.0, (fine_blank y q.1, tt)))
          (λ e.
          let q = both_split (between 49 57 x) _ e in (
            fine_within 49 57 x (omega arith) (omega arith) q.0,
            (either_split (same y 43) (same y 45) (fine_is 43 y (omega arith) (omega arith)) (fine_is 45 y (omega arith) (omega arith)) q.1, tt),
          ))
          w.1,
    )

-- every column clean, each byte is
column_fine : (l : List ℕ) (at n : ℕ) → clean_at l at n ≡ true → (i : ℕ) → i < n → Fine (get_or l (at + i) 0)
unfolding clean_at
column_fine l at zero e i h = absurd (omega arith)
column_fine l at (suc n) e i h = go (both_split (clean_at l at n) _ e) (column_fine l at n) (eqb i n) refl
  where
    go : (clean_at l at n ≡ true) × Fine (get_or l (at + n) 0) → (clean_at l at n ≡ true → (i : ℕ) → i < n → Fine (get_or l (at + i) 0)) → (t : Bool) → eqb i n ≡ t → Fine (get_or l (at + i) 0)
    go w ih true t = rw (eqb-true i n t) w.1
    go w ih false t = let z = eqb-false i n t in ih w.0 i (omega arith)

clean_name : (l : List ℕ) (n at : ℕ) → ((i : ℕ) → i < n → Fine (get_or l (at + i) 0)) → Clean (name_at n l at)
clean_name l zero at f = tt
clean_name l (suc n) at f =
    (subst (λ i. Fine (get_or l i 0)) (add-zero at) (f 0 (omega arith)), clean_name l n (at + 1) (λ i h. let k : at + 1 + i ≡ at + (i + 1) = omega arith in rw k (f (i + 1) (omega arith))))

pub free_fine : (n : ℕ) (name : List ℕ) → is_free n name ≡ true → Tidy n name
free_fine n name e =
    let w = sized_split n name _ e in
    (w.0, clean_name name n 0 (column_fine name 0 n w.1))

pub atom_name_fine : (n : List ℕ) → is_atom_name n ≡ true → Tidy 4 n
atom_name_fine n e =
    let s = sized_split 4 n _ e in
    let w = both_split (both (is_column (get_or n 0 0)) (is_column (get_or n 1 0))) _ s.1 in
    let q = both_split (is_column (get_or n 0 0)) _ w.0 in
    (s.0, (q.0, (q.1, padded_two_fine (get_or n 2 0) (get_or n 3 0) w.1)))

pub bond_name_fine : (n : List ℕ) → is_bond_name n ≡ true → Tidy 4 n
bond_name_fine n e =
    let s = sized_split 4 n _ e in
    let a : ℕ = get_or n 0 0 in
    let b : ℕ = get_or n 1 0 in
    let c : ℕ = get_or n 2 0 in
    let d : ℕ = get_or n 3 0 in (
      s.0,
      either_split (both (is_name_byte a) (padded_three b c d)) (both (is_blank a) (both (is_name_byte b) (padded_two c d)))
          (λ p. let q = both_split (is_name_byte a) _ p in (name_byte_fine a q.0, padded_three_fine b c d q.1))
          (λ p.
          let q = both_split (is_blank a) _ p in
          let u = both_split (is_name_byte b) _ q.1 in
          (fine_blank a q.0, (name_byte_fine b u.0, padded_two_fine c d u.1)))
          s.1,
    )
