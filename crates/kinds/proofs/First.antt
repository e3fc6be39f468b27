-- A clean line of a kind begins with that kind's name, and a line that begins with it is of that kind.
-- Assumes nothing.
use mathlib.Core.Path.{◌≡◌, refl, sym, subst, ◌∙◌, ap}
use mathlib.Core.List.{List, [], ◌∷◌, ◌++◌}
use mathlib.Core.Bool.{Bool, true, ◌&&◌}
use Prim.Native.Nat.{ℕ, ◌≤◌}
use native.Mathlib.Omega.{arith}
use lib.Dec.{T, eqb}
use mir.Facts.{and_yes}
use lib.ListN.{length, take, length-append}
use borrow.Author.Tests.{eqb-true, le-ltb}
use Rattle.ascii.proofs.Choice.{never, picks}
use Rattle.columns.specs.Columns.{clean_at}
use Rattle.words.specs.Words.{word_at, bytes_of}
use Rattle.words.proofs.Laws.{word_kept}
use Rattle.kinds.specs.declared.Kind.{Kind}
use Rattle.kinds.specs.declared.Kind.TheVariants.{Header, Title, Compnd, Source, Keywds, Expdta, Author, Revdat, Jrnl, Remark, Seqres, Het, Helix, Sheet, Cryst1, Origx1, Origx2, Origx3, Scale1, Scale2, Scale3, Atom, Hetatm, Ter, Conect, Master, End, Unknown, Model, Endmdl}
use Rattle.kinds.specs.Kinds.{packed, unpacked, row_of, name_text, is_named, kinds, first_named, kind_named, kind_of}

-- ---- the name that a kind has
abbrev Named : ℕ → Kind → Type 0
Named n k = is_named k ≡ true → n ≡ (row_of k).name

named : (n : ℕ) (ks : List Kind) → Named n (first_named n ks)
named n [] = never
named n (k ∷ ks) = picks (Named n) (eqb n (row_of k).name) k (first_named n ks) (λ t _. eqb-true n _ t) (λ _. named n ks)

pub name_bytes : (v : ℕ) (k : Kind) → v ≡ (row_of k).name → bytes_of 6 v ≡ name_text k
unfolding bytes_of
name_bytes v k e = rw e

pub name_first : (l : List ℕ) → 6 ≤ length l → clean_at l 0 6 ≡ true → (k : Kind) → kind_of l ≡ k → is_named k ≡ true → take 6 l ≡ name_text k
unfolding kind_of kind_named
name_first l h c k e known =
    let q : first_named (word_at l 0 6) kinds ≡ k = rw (le-ltb _ _ h) at e in
    let n : word_at l 0 6 ≡ (row_of k).name = rw q at (named (word_at l 0 6) kinds) known in
    sym (word_kept l 0 6 h c).0 ∙ name_bytes (word_at l 0 6) k n

-- ---- the kind that a name has
-- every kind is in the list, and no two have one name
pub kind_back : (k : Kind) → kind_named (packed 0 (name_text k)) ≡ k
unfolding kind_named
kind_back Header = refl
kind_back Title = refl
kind_back Compnd = refl
kind_back Source = refl
kind_back Keywds = refl
kind_back Expdta = refl
kind_back Author = refl
kind_back Revdat = refl
kind_back Jrnl = refl
kind_back Remark = refl
kind_back Seqres = refl
kind_back Het = refl
kind_back Helix = refl
kind_back Sheet = refl
kind_back Cryst1 = refl
kind_back Origx1 = refl
kind_back Origx2 = refl
kind_back Origx3 = refl
kind_back Scale1 = refl
kind_back Scale2 = refl
kind_back Scale3 = refl
kind_back Atom = refl
kind_back Hetatm = refl
kind_back Ter = refl
kind_back Conect = refl
kind_back Master = refl
kind_back End = refl
kind_back Unknown = refl
kind_back Model = refl
kind_back Endmdl = refl

pub kind_first : (x : List ℕ) (k : Kind) → kind_of (name_text k ++ x) ≡ k
unfolding kind_of word_at
kind_first x k =
    let h : 6 ≤ length (name_text k ++ x) = omega (arith, length-append (name_text k) x) in
    rw (le-ltb _ _ h) (kind_back k)

-- ---- laws of every kind
-- two kinds with one name are one
pub same_name : (a k : Kind) → (row_of a).name ≡ (row_of k).name → a ≡ k
same_name a k e = sym (kind_back a) ∙ ap (λ v. kind_named (packed 0 (unpacked 6 v []))) e ∙ kind_back k

-- a test that is computed of the list and of the unknown kind holds of every kind
abbrev pub all : (Kind → Bool) → List Kind → Bool
all t [] = t Unknown
all t (k ∷ ks) = t k && all t ks

all_first : (t : Kind → Bool) (n : ℕ) (ks : List Kind) → T (all t ks) → T (t (first_named n ks))
all_first t n [] h = h
all_first t n (k ∷ ks) h =
    let x = and_yes (t k) (all t ks) h in
    picks (λ (r : Kind). T (t r)) (eqb n (row_of k).name) k (first_named n ks) (λ _. x.0) (λ _. all_first t n ks x.1)

pub each : (t : Kind → Bool) → T (all t kinds) → (k : Kind) → T (t k)
unfolding kind_named
each t h k = subst (λ (r : Kind). T (t r)) (kind_back k) (all_first t (packed 0 (name_text k)) kinds h)
