-- A format that begins at an index is lawful if what it writes reads back, what it reads is what it would write, and what it blames is its leftmost
-- wrong field. Formats built of lawful ones are lawful.
-- Assumes nothing.
use mathlib.Core.Path.{◌≡◌, refl, sym, ◌∙◌, ap, ap₂, subst}
use mathlib.Core.List.{List, ◌++◌}
use mathlib.Core.Logic.{◌⊎◌, inl, inr}
use mathlib.Core.Bool.{Bool, true, false}
use Prim.Native.Nat.{ℕ, zero, suc, ◌+◌, ◌≤◌, ◌<◌}
use native.Mathlib.Omega.{arith}
use native.Mathlib.Nat.{le_of_eq}
use lib.ListN.{length, take, drop, length-append, length-drop, take-append-drop}
use lib.Seq.{drop_at, take_all}
use lib.Dec.{T, leb, ltb, eqb, ltb→lt}
use lib.IntN.{ℤ, pos, negsuc, nat_abs}
use borrow.Author.Tests.{le-ltb, le-leb, ltb-false, leb-true, ne_eqb, eqb-false}
use Rattle.ascii.proofs.Choice.{picks, never, both_split, both_join}
use Rattle.ascii.proofs.Clean.{Clean, clean_append, clean_literal, printed}
use Rattle.columns.proofs.Faults.{first_split, first_join, blame_none, blame_good, blamed_none, blamed_good, left_split, left_join}
use Rattle.columns.proofs.Spans.{cols_add, cols_left, cols_right, blanks_length, blanks_clean, gap_text, gap_back}
use Rattle.numbers.proofs.Laws.{render_length, render_clean, number_text, number_back}
use Rattle.ascii.specs.Tests.{pick, both}
use Rattle.columns.specs.Columns.{gap_of, blanks, cols, blamed_of, first_of, leftmost}
use Rattle.numbers.specs.declared.Number.{Number}
use Rattle.numbers.specs.Number.{render, number_of}
use Rattle.fields.specs.Field.{Whole}
use Rattle.fields.specs.Field.{Signed}
use Rattle.fields.specs.Field.{signed_of, is_neg, cap_of, whole_in, wrong_whole, integer_in, wrong_signed, ranged_of, spans_of}
use Rattle.fields.specs.Format.{Field, leftmost_wrong, SideBySide, blank_fields, same_bytes, Format, sole, ranged_f, whole_f, whole_real_f, signed_f, integer_f, real_f, raw_f, none_f, ◌then◌, after, held, under, shut}
use Rattle.fields.proofs.Caps.{cap_law}
use Rattle.fields.proofs.Sides.{HasColumn, side_join, wrong_append, blank_side, blank_wrong, rule_side, rule_wrong, same_bytes_lem, same_self, blame_first, first_of_lem}

pub record Lawful {A : Type 0} (F : Format A) (begin : ℕ) : Type 0 where
  -- a value is written in all of the columns
  pub long : (a : A) → length (F.text a) ≡ F.width
  -- a value within its range is written in clean bytes
  pub clean : (a : A) → F.ok a ≡ true → Clean (F.text a)
  -- what is written of a value within its range reads back
  pub back : (l : List ℕ) (at : ℕ) (a : A) → F.ok a ≡ true → cols l at F.width ≡ F.text a → (F.fault l at ≡ 0) × (F.value l at ≡ a)
  -- what reads is what would be written, and its value is within its range
  pub kept : (l : List ℕ) (at : ℕ) → at + F.width ≤ length l → F.fault l at ≡ 0 → (F.text (F.value l at) ≡ cols l at F.width) × (F.ok (F.value l at) ≡ true)
  -- its fault is the column of the leftmost field that is wrong
  pub named : (l : List ℕ) → begin + F.width ≤ length l → F.fault l begin ≡ leftmost_wrong (F.fields l begin)
  -- the fields fill its columns
  pub filled : (l : List ℕ) → SideBySide (begin + 1) (F.fields l begin) (begin + 1 + F.width)

-- ---- one field
-- the laws of one field whose fault is at its first column: it has none exactly if it is what its value is written as
pub record Single {A : Type 0} (F : Format A) : Type 0 where
  pub long : (a : A) → length (F.text a) ≡ F.width
  pub clean : (a : A) → F.ok a ≡ true → Clean (F.text a)
  pub back : (l : List ℕ) (at : ℕ) (a : A) → F.ok a ≡ true → cols l at F.width ≡ F.text a → (F.fault l at ≡ 0) × (F.value l at ≡ a)
  pub kept : (l : List ℕ) (at : ℕ) → at + F.width ≤ length l → F.fault l at ≡ 0 → (F.text (F.value l at) ≡ cols l at F.width) × (F.ok (F.value l at) ≡ true)
  pub first : (l : List ℕ) (at : ℕ) → (F.fault l at ≡ 0) ⊎ (F.fault l at ≡ at + 1)
  pub alone : (l : List ℕ) (at : ℕ) → F.fields l at ≡ (sole F.width F.fault F.value F.text F.ok).fields l at

single_named : {A : Type 0} (F : Format A) → Single F → (l : List ℕ) (at : ℕ) → at + F.width ≤ length l
    → F.fault l at ≡ leftmost_wrong ((sole F.width F.fault F.value F.text F.ok).fields l at)
unfolding leftmost_wrong
single_named F f l at h = go (f.first l at)
  where
    by_test : (b : Bool) → both (same_bytes (cols l at F.width) (F.text (F.value l at))) (F.ok (F.value l at)) ≡ b → F.fault l at ≡ at + 1 → F.fault l at ≡ pick b 0 (at + 1)
    by_test true e z = let w = both_split _ (F.ok (F.value l at)) e in (f.back l at (F.value l at) w.1 (same_bytes_lem _ _ w.0)).0
    by_test false e z = z

    go : (F.fault l at ≡ 0) ⊎ (F.fault l at ≡ at + 1) → F.fault l at ≡ pick (both (same_bytes (cols l at F.width) (F.text (F.value l at))) (F.ok (F.value l at))) 0 (at + 1)
    go (inl z) =
        let x = f.kept l at h z in
        let r = both_join _ _ (ap (same_bytes (cols l at F.width)) x.0 ∙ same_self (cols l at F.width)) x.1 in
        z ∙ rw r
    go (inr z) = by_test _ refl z

pub single_lawful : {A : Type 0} {F : Format A} {begin : ℕ} → Single F → Lawful F begin
unfolding SideBySide
single_lawful {A} {F} {begin} f =
    record {
      long = f.long;
      clean = f.clean;
      back = f.back;
      kept = f.kept;
      named = λ l h. single_named F f l begin h ∙ ap leftmost_wrong (sym (f.alone l begin));
      filled = λ l. subst (λ (xs : List Field). SideBySide (begin + 1) xs (begin + 1 + F.width)) (sym (f.alone l begin)) (refl, refl);
    }

-- ---- numbers
whole_reads : (lo hi : ℕ) (h : Number) (at : ℕ) → (whole_in lo hi h at).column ≡ 0
    → (h.good ≡ true) × (h.minus ≡ false) × ((whole_in lo hi h at).value ≡ h.mag) × (lo ≤ h.mag) × (h.mag ≤ hi)
unfolding whole_in
whole_reads lo hi h at =
    picks P h.good _ (wrong_whole at)
    (λ g. picks P h.minus (wrong_whole at) _ (λ _. wrong)
    (λ m. picks P (ltb h.mag lo) (wrong_whole at) _ (λ _. wrong)
    (λ a. picks P (ltb hi h.mag) (wrong_whole at) _ (λ _. wrong)
    (λ b _. (g, m, refl, ltb-false _ _ a, ltb-false _ _ b)))))
    (λ _. wrong)
  where
    P : Whole → Type 0
    P r = r.column ≡ 0 → (h.good ≡ true) × (h.minus ≡ false) × (r.value ≡ h.mag) × (lo ≤ h.mag) × (h.mag ≤ hi)

    wrong : P (wrong_whole at)
    wrong e = absurd (omega arith)

whole_written : (lo hi v at : ℕ) → lo ≤ v → v ≤ hi → whole_in lo hi (record { good = true; minus = false; mag = v }) at ≡ record { column = 0; value = v }
unfolding whole_in
whole_written lo hi v at a b = rw (le-ltb _ _ a, le-ltb _ _ b)

whole_first : (lo hi : ℕ) (h : Number) (at : ℕ) → ((whole_in lo hi h at).column ≡ 0) ⊎ ((whole_in lo hi h at).column ≡ at + 1)
unfolding whole_in
whole_first lo hi h at =
    picks P h.good _ _ (λ _. picks P h.minus _ _ (λ _. inr refl) (λ _. picks P (ltb h.mag lo) _ _ (λ _. inr refl) (λ _. picks P (ltb hi h.mag) _ _ (λ _. inr refl) (λ _. inl refl)))) (λ _. inr refl)
  where
    P : Whole → Type 0
    P r = (r.column ≡ 0) ⊎ (r.column ≡ at + 1)

pub ranged_single : (n e lo hi : ℕ) → T (ltb hi (cap_of n e false)) → Single (ranged_f n e lo hi)
unfolding ranged_of
ranged_single n e lo hi t =
    record {
      long = λ v. render_length n e false v;
      clean = λ v k. render_clean n e false v;
      back = λ l at v k q.
          let w = both_split (leb lo v) (leb v hi) k in
          let h : v ≤ hi = leb-true v hi w.1 in
          let c = ltb→lt hi (cap_of n e false) t in
          let r = number_back l at n e false v ((cap_law n e false v).1 (omega arith)) q in
          let z = ap (λ x. whole_in lo hi x at) r ∙ whole_written lo hi v at (leb-true _ _ w.0) h in
          (ap (λ (x : Whole). x.column) z, ap (λ (x : Whole). x.value) z);
      kept = λ l at h q.
          let r = whole_reads lo hi (number_of l at n e) at q in
          let w = number_text l at n e h r.0 in (
            ap (λ x. render n e false x) r.2 ∙ ap (λ m. render n e m (number_of l at n e).mag) (sym r.1) ∙ w.0,
            rw r.2 (both_join _ _ (le-leb _ _ r.3) (le-leb _ _ r.4)),
          );
      first = λ l at. whole_first lo hi (number_of l at n e) at;
      alone = λ l at. refl;
    }

pub whole_lawful : {begin : ℕ} (n lo hi : ℕ) → T (ltb hi (cap_of n 0 false)) → Lawful (whole_f n lo hi) begin
whole_lawful n lo hi t = single_lawful (ranged_single n 0 lo hi t)

pub whole_real_lawful : {begin : ℕ} (n d lo hi : ℕ) → T (ltb hi (cap_of n (d + 1) false)) → Lawful (whole_real_f n d lo hi) begin
whole_real_lawful n d lo hi t = single_lawful (ranged_single n (d + 1) lo hi t)

pub signed_neg : (m : Bool) (v : ℕ) → (m ≡ true → v ≡ 0 → ⊥) → is_neg (signed_of m v) ≡ m
unfolding signed_of is_neg
signed_neg false v h = refl
signed_neg true zero h = absurd (h refl refl)
signed_neg true (suc v) h = refl

pub signed_abs : (m : Bool) (v : ℕ) → nat_abs (signed_of m v) ≡ v
unfolding signed_of
signed_abs false v = refl
signed_abs true zero = refl
signed_abs true (suc v) = refl

integer_reads : (h : Number) (at : ℕ) → (integer_in h at).column ≡ 0
    → (h.good ≡ true) × ((integer_in h at).value ≡ signed_of h.minus h.mag) × (h.minus ≡ true → h.mag ≡ 0 → ⊥)
unfolding integer_in
integer_reads h at =
    picks P h.good _ (wrong_signed at)
    (λ g. picks P h.minus _ _
    (λ m. picks P (eqb h.mag 0) (wrong_signed at) _ (λ _. wrong) (λ o _. (g, rw m, λ _. eqb-false _ _ o)))
    (λ m _. (g, rw m, λ t. never (sym m ∙ t))))
    (λ _. wrong)
  where
    P : Signed → Type 0
    P r = r.column ≡ 0 → (h.good ≡ true) × (r.value ≡ signed_of h.minus h.mag) × (h.minus ≡ true → h.mag ≡ 0 → ⊥)

    wrong : P (wrong_signed at)
    wrong e = absurd (omega arith)

integer_written : (z : ℤ) (at : ℕ) → integer_in (record { good = true; minus = is_neg z; mag = nat_abs z }) at ≡ record { column = 0; value = z }
unfolding integer_in is_neg signed_of
integer_written (pos n) at = refl
integer_written (negsuc n) at = rw (ne_eqb (suc n) 0 (λ q. omega arith))

span_cap : (n e low high : ℕ) → suc low ≡ cap_of n e true → suc high ≡ cap_of n e false → (m : Bool) → suc (pick m low high) ≡ cap_of n e m
span_cap n e low high a b true = a
span_cap n e low high a b false = b

integer_first : (h : Number) (at : ℕ) → ((integer_in h at).column ≡ 0) ⊎ ((integer_in h at).column ≡ at + 1)
unfolding integer_in
integer_first h at =
    picks P h.good _ _ (λ _. picks P h.minus _ _ (λ _. picks P (eqb h.mag 0) _ _ (λ _. inr refl) (λ _. inl refl)) (λ _. inl refl)) (λ _. inr refl)
  where
    P : Signed → Type 0
    P r = (r.column ≡ 0) ⊎ (r.column ≡ at + 1)

pub signed_single : (n e low high : ℕ) → suc low ≡ cap_of n e true → suc high ≡ cap_of n e false → Single (signed_f n e low high)
unfolding spans_of
signed_single n e low high ca cb =
    record {
      long = λ z. render_length n e (is_neg z) (nat_abs z);
      clean = λ z k. render_clean n e (is_neg z) (nat_abs z);
      back = λ l at z k q.
          let r = number_back l at n e (is_neg z) (nat_abs z) ((cap_law n e (is_neg z) (nat_abs z)).1 (omega (arith, leb-true (nat_abs z) (pick (is_neg z) low high) k, span_cap n e low high ca cb (is_neg z)))) q in
          let y = ap (λ x. integer_in x at) r ∙ integer_written z at in
          (ap (λ (x : Signed). x.column) y, ap (λ (x : Signed). x.value) y);
      kept = λ l at h q.
          let x : Number = number_of l at n e in
          let r = integer_reads x at q in
          let w = number_text l at n e h r.0 in
          let m : is_neg (signed_of x.minus x.mag) ≡ x.minus = signed_neg x.minus x.mag r.2 in
          let v : nat_abs (signed_of x.minus x.mag) ≡ x.mag = signed_abs x.minus x.mag in
          let c : x.mag < cap_of n e x.minus = (cap_law n e x.minus x.mag).0 w.1 in
          let d : suc (pick x.minus low high) ≡ cap_of n e x.minus = span_cap n e low high ca cb x.minus in
          rw (r.1, m, v) (w.0, le-leb x.mag (pick x.minus low high) (omega arith));
      first = λ l at. integer_first (number_of l at n e) at;
      alone = λ l at. refl;
    }

pub integer_lawful : {begin : ℕ} (n low high : ℕ) → suc low ≡ cap_of n 0 true → suc high ≡ cap_of n 0 false → Lawful (integer_f n low high) begin
integer_lawful n low high a b = single_lawful (signed_single n 0 low high a b)

pub real_lawful : {begin : ℕ} (n d low high : ℕ) → suc low ≡ cap_of n (d + 1) true → suc high ≡ cap_of n (d + 1) false → Lawful (real_f n d low high) begin
real_lawful n d low high a b = single_lawful (signed_single n (d + 1) low high a b)

-- ---- bytes
pub record Shape {A : Type 0} (n : ℕ) (value : List ℕ → ℕ → A) (text : A → List ℕ) : Type 0 where
  pub long : (a : A) → length (text a) ≡ n
  pub there : (l : List ℕ) (at : ℕ) → at + n ≤ length l → text (value l at) ≡ cols l at n
  pub same : (l : List ℕ) (at : ℕ) (a : A) → cols l at n ≡ text a → value l at ≡ a

pub raw_lawful : {A : Type 0} {begin : ℕ} (n : ℕ) (value : List ℕ → ℕ → A) (text : A → List ℕ) (test : A → Bool) → Shape n value text → ((a : A) → test a ≡ true → Clean (text a)) → Lawful (raw_f n value text test) begin
raw_lawful n value text test s c =
    single_lawful (record {
      long = s.long;
      clean = c;
      back = λ l at a k q. let v = s.same l at a q in (blame_good _ at (ap test v ∙ k), v);
      kept = λ l at h q. (s.there l at h, blame_none _ at q);
      first = λ l at. blame_first (test (value l at)) at;
      alone = λ l at. refl;
    })

-- ---- combinations
pub none_lawful : {begin : ℕ} → Lawful none_f begin
unfolding leftmost_wrong SideBySide
none_lawful =
    record {
      long = λ a. refl;
      clean = λ a k. tt;
      back = λ l at a k q. (refl, refl);
      kept = λ l at h q. (refl, refl);
      named = λ l h. refl;
      filled = λ l. omega arith;
    }

pub then_lawful : {A B : Type 0} {F : Format A} {G : Format B} {begin : ℕ} → Lawful F begin → Lawful G (begin + F.width) → Lawful (F then G) begin
then_lawful {F} {G} {begin} f g =
    record {
      long = λ a. length-append (F.text a.0) (G.text a.1) ∙ ap₂ ◌+◌ (f.long a.0) (g.long a.1);
      clean = λ a k.
          let w = both_split (F.ok a.0) (G.ok a.1) k in
          clean_append (F.text a.0) (G.text a.1) (f.clean a.0 w.0) (g.clean a.1 w.1);
      back = λ l at a k q.
          let w = both_split (F.ok a.0) (G.ok a.1) k in
          let x = f.back l at a.0 w.0 (cols_left l at F.width G.width (F.text a.0) (G.text a.1) (f.long a.0) q) in
          let y = g.back l (at + F.width) a.1 w.1 (cols_right l at F.width G.width (F.text a.0) (G.text a.1) (f.long a.0) q) in
          (first_join _ _ x.0 y.0, λ i. (x.1 i, y.1 i));
      kept = λ l at h q.
          let w = first_split (F.fault l at) (G.fault l (at + F.width)) q in
          let x = f.kept l at (omega arith) w.0 in
          let y = g.kept l (at + F.width) (omega arith) w.1 in
          (ap₂ ◌++◌ x.0 y.0 ∙ sym (cols_add l at F.width G.width), both_join _ _ x.1 y.1);
      named = λ l h.
          ap₂ first_of (f.named l (omega arith)) (g.named l (omega arith))
          ∙ sym (wrong_append (begin + 1) (begin + 1 + F.width) (F.fields l begin) (G.fields l (begin + F.width)) (omega arith) (f.filled l));
      filled = λ l. side_join begin F.width G.width (F.fields l begin) (G.fields l (begin + F.width)) (f.filled l) (g.filled l);
    }

pub after_lawful : {A : Type 0} {F : Format A} {begin : ℕ} (n : ℕ) → Lawful F (begin + n) → Lawful (after n F) begin
after_lawful {F} {begin} n f =
    record {
      long = λ a. length-append (blanks n) (F.text a) ∙ ap₂ ◌+◌ (blanks_length n) (f.long a);
      clean = λ a k. clean_append (blanks n) (F.text a) (blanks_clean n) (f.clean a k);
      back = λ l at a k q.
          let y = f.back l (at + n) a k (cols_right l at n F.width (blanks n) (F.text a) (blanks_length n) q) in
          (first_join _ _ (gap_back l at n (cols_left l at n F.width (blanks n) (F.text a) (blanks_length n) q)) y.0, y.1);
      kept = λ l at h q.
          let w = first_split (gap_of l at n) (F.fault l (at + n)) q in
          let y = f.kept l (at + n) (omega arith) w.1 in
          (ap₂ ◌++◌ (gap_text l at n (omega arith) w.0) y.0 ∙ sym (cols_add l at n F.width), y.1);
      named = λ l h.
          ap₂ first_of (blank_wrong l begin n) (f.named l (omega arith))
          ∙ sym (wrong_append (begin + 1) (begin + 1 + n) (blank_fields l begin n) (F.fields l (begin + n)) (omega arith) (blank_side l begin n));
      filled = λ l. side_join begin n F.width (blank_fields l begin n) (F.fields l (begin + n)) (blank_side l begin n) (f.filled l);
    }

pub shut_lawful : {A : Type 0} {F : Format A} {n begin : ℕ} → F.width ≡ n → Lawful F begin → Lawful (shut n F) begin
shut_lawful {F} {begin} e f = subst (λ (n : ℕ). Lawful (shut n F) begin) e f

pub held_lawful : {A B : Type 0} {F : Format A} {begin : ℕ} (to : A → B) (from : B → A) → ((b : B) → to (from b) ≡ b) → ((a : A) → from (to a) ≡ a) → Lawful F begin → Lawful (held F to from) begin
held_lawful {F} to from there here f =
    record {
      long = λ b. f.long (from b);
      clean = λ b k. f.clean (from b) k;
      back = λ l at b k q. let x = f.back l at (from b) k q in (x.0, ap to x.1 ∙ there b);
      kept = λ l at h q. let x = f.kept l at h q in (ap F.text (here (F.value l at)) ∙ x.0, ap F.ok (here (F.value l at)) ∙ x.1);
      named = f.named;
      filled = f.filled;
    }

-- the column that is blamed is that of a field
pub under_lawful : {A : Type 0} {F : Format A} {begin : ℕ} (test : A → Bool) (c : ℕ) → T (ltb 0 c) → ((l : List ℕ) → HasColumn c (F.fields l begin)) → Lawful F begin → Lawful (under F test c) begin
under_lawful {F} {begin} test c t has f =
    record {
      long = f.long;
      clean = λ a k. f.clean a (both_split (F.ok a) (test a) k).0;
      back = λ l at a k q.
          let w = both_split (F.ok a) (test a) k in
          let x = f.back l at a w.0 q in
          (left_join (F.fault l at) (blamed_of (test (F.value l at)) c) x.0 (blamed_good _ c (ap test x.1 ∙ w.1)), x.1);
      kept = λ l at h q.
          let w = left_split (F.fault l at) (blamed_of (test (F.value l at)) c) q in
          let x = f.kept l at h w.0 in
          (x.0, both_join _ _ x.1 (blamed_none _ c t w.1));
      named = λ l h.
          ap (λ (x : ℕ). leftmost x (blamed_of (test (F.value l begin)) c)) (f.named l h)
          ∙ rule_wrong c (begin + 1) (begin + 1 + F.width) (F.fields l begin) (test (F.value l begin)) (omega arith) (f.filled l) (has l);
      filled = λ l. rule_side c (test (F.value l begin)) (begin + 1) (begin + 1 + F.width) (F.fields l begin) (f.filled l);
    }

-- a lawful format with a column has a field that begins with it
pub has_first : {A : Type 0} {F : Format A} {begin : ℕ} → Lawful F begin → 0 < F.width → (l : List ℕ) → HasColumn (begin + 1) (F.fields l begin)
has_first {F} {begin} f h l = first_of_lem (begin + 1) F.width (F.fields l begin) h (f.filled l)

-- ---- THE THEOREM of a kind of line: a name of six columns, and a format of the other 74
module _ {A : Type 0} (F : Format A) (f : Lawful F 6) (w : F.width ≡ 74) (name : List ℕ) (n : length name ≡ 6) where
  -- a line of that name in which nothing is wrong is what its value is written as, and the value is within its range
  pub line_kept : (l : List ℕ) → length l ≡ 80 → take 6 l ≡ name → F.fault l 6 ≡ 0 → (name ++ F.text (F.value l 6) ≡ l) × (F.ok (F.value l 6) ≡ true)
  line_kept l h e q =
      let x = f.kept l 6 (omega arith) q in
      let all : cols l 6 F.width ≡ drop 6 l = take_all F.width (drop 6 l) (omega (arith, length-drop 6 l)) in
      (ap₂ ◌++◌ (sym e) (x.0 ∙ all) ∙ take-append-drop 6 l, x.1)

  -- a value within its range reads back from the line that it is written as
  pub line_back : (a : A) → F.ok a ≡ true → (F.fault (name ++ F.text a) 6 ≡ 0) × (F.value (name ++ F.text a) 6 ≡ a)
  line_back a k = f.back (name ++ F.text a) 6 a k
      (ap (take F.width) (drop_at name (F.text a) 6 n) ∙ take_all F.width (F.text a) (le_of_eq (f.long a)))

  pub line_clean : T (printed name) → (a : A) → F.ok a ≡ true → Clean (name ++ F.text a)
  line_clean t a k = clean_append name (F.text a) (clean_literal name t) (f.clean a k)

  pub line_long : (a : A) → length (name ++ F.text a) ≡ 80
  line_long a = length-append name (F.text a) ∙ ap₂ ◌+◌ n (f.long a ∙ w)
