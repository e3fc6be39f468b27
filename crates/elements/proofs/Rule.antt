-- The table of the elements, proved once over it: which pairs are elements, that every number occurs, and that only H and D share one.
-- Assumes nothing.
use mathlib.Core.Path.{◌≡◌, refl, sym, ◌∙◌, ap, ap₂}
use mathlib.Core.List.{List, [], ◌∷◌}
use mathlib.Core.Bool.{Bool, true, false}
use mathlib.Core.Logic.{◌⊎◌, inl, inr, ⊎_elim}
use Prim.Native.Nat.{ℕ, suc, ◌+◌, ◌*◌, ◌-◌, ◌≤◌, ◌<◌}
use native.Mathlib.Omega.{arith}
use lib.Dec.{ltb, eqb}
use lib.ListN.{length, get_or, get_or-eq_default}
use borrow.Author.Tests.{eqb-true, ltb-true, ltb-false}
use Rattle.ascii.specs.Tests.{pick, both, between, is_upper}
use Rattle.ascii.proofs.Choice.{picks, both_split, between_low, between_high}
use Rattle.ascii.proofs.Clean.{fine}
use Rattle.names.proofs.Bytes.{name_whole}
use Rattle.names.proofs.Classes.{Tidy}
use Rattle.elements.specs.Elements.{elements, index_of, atomic_of, symbols, symbol_of, hydrogen, deuterium, is_element}
use Rattle.elements.specs.Promise.{TableRule}
use Rattle.elements.proofs.Every.{passed}

-- ---- for the code
pub from_table : (p : List ℕ) (i : ℕ) → i ≡ index_of p → get_or elements i 0 ≡ atomic_of p
unfolding atomic_of
from_table p i e = ap (λ k. get_or elements k 0) e

long : length elements ≡ 702
unfolding elements
long = refl

pub past_table : (p : List ℕ) (i : ℕ) → i ≡ index_of p → 702 ≤ i → 0 ≡ atomic_of p
unfolding atomic_of
past_table p i e h = sym (get_or-eq_default elements 0 {n = index_of p} (omega (arith, long)))

pub element_is : (n : ℕ) (p : List ℕ) → n ≡ atomic_of p → ltb 0 n ≡ ltb 0 (atomic_of p)
element_is n p e = ap (ltb 0) e

-- ---- places and pairs
-- a pair with a place in the table: a blank or a letter, then a letter
record Placed (p : List ℕ) (k : ℕ) : Type 0 where
  long : length p ≡ 2
  second : (65 ≤ get_or p 1 0) × (get_or p 1 0 ≤ 90)
  place : ((get_or p 0 0 ≡ 32) × (k ≡ get_or p 1 0 - 65)) ⊎ ((65 ≤ get_or p 0 0) × (get_or p 0 0 ≤ 90) × (k ≡ 26 * (get_or p 0 0 - 64) + (get_or p 1 0 - 65)))

placed : (p : List ℕ) → index_of p < 702 → Placed p (index_of p)
unfolding index_of
placed p =
    picks (λ (k : ℕ). k < 702 → Placed p k) (eqb (length p) 2) _ 702
    (λ n.
    let long : length p ≡ 2 = eqb-true (length p) 2 n in
    picks (λ (k : ℕ). k < 702 → Placed p k) (is_upper (get_or p 1 0)) _ 702
    (λ b.
    let s : (65 ≤ get_or p 1 0) × (get_or p 1 0 ≤ 90) = (between_low 65 90 (get_or p 1 0) b, between_high 65 90 (get_or p 1 0) b) in
    picks (λ (k : ℕ). k < 702 → Placed p k) (eqb (get_or p 0 0) 32) _ _
    (λ a _. record { long = long; second = s; place = inl (eqb-true (get_or p 0 0) 32 a, refl) })
    (λ _. picks (λ (k : ℕ). k < 702 → Placed p k) (is_upper (get_or p 0 0)) _ 702
    (λ a _. record { long = long; second = s; place = inr (between_low 65 90 (get_or p 0 0) a, between_high 65 90 (get_or p 0 0) a, refl) }) (λ _ h. absurd (omega arith))))
    (λ _ h. absurd (omega arith)))
    (λ _ h. absurd (omega arith))

-- two pairs at one place are one pair
one_place : (p q : List ℕ) (k : ℕ) → Placed p k → Placed q k → p ≡ q
one_place p q k x y =
    ⊎_elim
    (λ u. ⊎_elim (λ v. join (omega arith) (omega (arith, x.second, y.second))) (λ v. absurd (omega (arith, x.second, y.second))) y.place)
    (λ u. ⊎_elim (λ v. absurd (omega (arith, x.second, y.second))) (λ v. join (omega (arith, x.second, y.second)) (omega (arith, x.second, y.second))) y.place)
    x.place
  where
    join : get_or p 0 0 ≡ get_or q 0 0 → get_or p 1 0 ≡ get_or q 1 0 → p ≡ q
    join e f = sym (name_whole 2 p x.long) ∙ ap₂ (λ a b. a ∷ b ∷ []) e f ∙ name_whole 2 q y.long

pub same_pair_lem : (p q : List ℕ) → index_of p ≡ index_of q → index_of p < 702 → p ≡ q
same_pair_lem p q e h =
    let g : index_of q < 702 = omega arith in
    one_place p q (index_of p) (placed p h) (rw e (placed q g))

-- an element has a place
in_table : (p : List ℕ) → is_element p ≡ true → index_of p < 702
in_table p e = go (ltb (index_of p) 702) refl
  where
    go : (t : Bool) → ltb (index_of p) 702 ≡ t → index_of p < 702
    go true t = ltb-true (index_of p) 702 t
    go false t = let h = ltb-false (index_of p) 702 t in let z = past_table p (index_of p) refl h in let y = ltb-true 0 (atomic_of p) e in absurd (omega arith)

-- ---- THE RULE, by one test over the table
-- an entry x at the place k is 0, or the number of the symbol whose place is k, or D's, which is 1
right : ℕ → ℕ → Bool
right k x = pick (eqb x 0) true (pick (eqb k (index_of deuterium)) (eqb x 1) (both (ltb x 119) (eqb (index_of (symbol_of x)) k)))

rule : (k : ℕ) → k < 702 → right k (get_or elements k 0) ≡ true
unfolding right elements symbol_of index_of symbols between both
rule k h = passed (λ (n : ℕ). right n (get_or elements n 0)) 702 refl k h

-- every number from 1 to 118 is that of its symbol
abbrev occurring : ℕ → Bool
occurring i = eqb (atomic_of (symbol_of (suc i))) (suc i)

pub occurs : (n : ℕ) → n < 118 → atomic_of (symbol_of (suc n)) ≡ suc n
unfolding elements symbol_of symbols index_of between atomic_of
occurs n h = eqb-true (atomic_of (symbol_of (suc n))) (suc n) (passed occurring 118 refl n h)

pub deuterium_is : atomic_of deuterium ≡ 1
unfolding elements index_of between atomic_of
deuterium_is = refl

hydrogen_is : symbol_of 1 ≡ hydrogen
unfolding symbol_of symbols
hydrogen_is = refl

-- the two ways in which a pair is an element
abbrev Known : List ℕ → Type 0
Known p = (p ≡ deuterium) ⊎ ((atomic_of p < 119) × (p ≡ symbol_of (atomic_of p)))

by_rule : (p : List ℕ) (k x : ℕ) → k ≡ index_of p → x ≡ atomic_of p → k < 702 → 0 < x → right k x ≡ true → Known p
unfolding right
by_rule p k x ek ex h z =
    picks (λ (r : Bool). r ≡ true → Known p) (eqb x 0) true _ (λ e _. let y = eqb-true x 0 e in absurd (omega arith))
    (λ _. picks (λ (r : Bool). r ≡ true → Known p) (eqb k (index_of deuterium)) (eqb x 1) _
    (λ e _. let q = eqb-true k (index_of deuterium) e in inl (same_pair_lem p deuterium (sym ek ∙ q) (omega arith)))
    (λ _ t.
    let w = both_split (ltb x 119) _ t in
    let q = eqb-true (index_of (symbol_of x)) k w.1 in
    let b = ltb-true x 119 w.0 in
    inr (omega arith, same_pair_lem p (symbol_of (atomic_of p)) (sym ek ∙ sym q ∙ ap (λ n. index_of (symbol_of n)) ex) (omega arith))))

pub known : (p : List ℕ) → is_element p ≡ true → Known p
known p e =
    let h = in_table p e in
    let z = ltb-true 0 (atomic_of p) e in
    by_rule p (index_of p) (atomic_of p) refl refl h z (rw (sym (from_table p (index_of p) refl)) (rule (index_of p) h))

all_known : (p : List ℕ) → is_element p ≡ true → (p ≡ deuterium) ⊎ ((n : ℕ) × (n < 118) × (p ≡ symbol_of (suc n)) × (atomic_of p ≡ suc n))
all_known p e =
    let z = ltb-true 0 (atomic_of p) e in
    ⊎_elim inl
    (λ k. let s : atomic_of p ≡ suc (atomic_of p - 1) = omega arith in inr (atomic_of p - 1, omega arith, k.1 ∙ ap symbol_of s, s))
    (known p e)

one_symbol : (p : List ℕ) → p ≡ symbol_of (atomic_of p) → atomic_of p ≡ 1 → p ≡ hydrogen
one_symbol p e o = e ∙ ap symbol_of o ∙ hydrogen_is

shared_known : (p q : List ℕ) → is_element p ≡ true → atomic_of p ≡ atomic_of q → (p ≡ q) ⊎ (((p ≡ hydrogen) × (q ≡ deuterium)) ⊎ ((p ≡ deuterium) × (q ≡ hydrogen)))
shared_known p q e s =
    let f : is_element q ≡ true = ap (ltb 0) (sym s) ∙ e in
    ⊎_elim
    (λ d. ⊎_elim (λ c. inl (d ∙ sym c)) (λ c. inr (inr (d, one_symbol q c.1 (sym s ∙ ap atomic_of d ∙ deuterium_is)))) (known q f))
    (λ d. ⊎_elim (λ c. inr (inl (one_symbol p d.1 (s ∙ ap atomic_of c ∙ deuterium_is), c))) (λ c. inl (d.1 ∙ ap symbol_of s ∙ sym c.1)) (known q f))
    (known p e)

pub table_rule : TableRule
table_rule = record { size = long; all = all_known; each = occurs; heavy = deuterium_is; shared = shared_known }

-- ---- an element's columns are clean
pub element_fine : (p : List ℕ) → is_element p ≡ true → Tidy 2 p
element_fine p e =
    let x = placed p (in_table p e) in
    let a : ℕ = get_or p 0 0 in (
      x.long,
      (
        ⊎_elim (λ u. fine a (omega arith) (omega arith)) (λ u. fine a (omega arith) (omega arith)) x.place,
        (fine (get_or p 1 0) (omega (arith, x.second)) (omega (arith, x.second)), tt),
      ),
    )
