-- Formats with a choice are lawful where their parts are.
-- Assumes nothing.
use mathlib.Core.Path.{◌≡◌, refl, sym, ◌∙◌, ap, ap₂, subst}
use mathlib.Core.List.{List, ◌++◌}
use mathlib.Core.Bool.{Bool, true, false}
use mathlib.Core.Logic.{◌⊎◌, ⊎_elim}
use Prim.Native.Nat.{ℕ, ◌+◌, ◌≤◌, ◌<◌}
use native.Mathlib.Omega.{arith}
use lib.ListN.{length, length-append}
use lib.Dec.{T, eqb, leb, ltb}
use borrow.Author.Tests.{le-leb, leb-true, ne_eqb, eqb-true}
use Rattle.ascii.proofs.Choice.{both_split, both_join}
use Rattle.ascii.proofs.Clean.{Clean, clean_append}
use Rattle.columns.proofs.Faults.{first_split, first_join, blame_none, blame_good}
use Rattle.columns.proofs.Spans.{cols_add, cols_left, cols_right, blanks_length, blanks_clean, gap_text, gap_back}
use Rattle.fields.proofs.Sides.{HasColumn, side_join, wrong_append, blank_side, blank_wrong, rule_side, rule_wrong, first_left}
use Rattle.fields.proofs.Formats.{Lawful, Single, single_lawful, ranged_single, has_first}
use Rattle.ascii.specs.Tests.{pick}
use Rattle.columns.specs.Columns.{gap_of, blanks, cols, blame, blamed_of, first_of, leftmost}
use Rattle.numbers.specs.Number.{render}
use Rattle.numbers.proofs.Laws.{render_clean}
use Rattle.fields.specs.Field.{cap_of, ranged_number, ranged_of}
use Rattle.fields.specs.Format.{leftmost_wrong, SideBySide, blank_fields, Format}
use Rattle.fields.specs.Choice.{only, maybe, blank, into, fixed}

-- a field with a further test: it is blamed as a rule between fields would blame it
pub only_lawful : {A : Type 0} {F : Format A} {begin : ℕ} (test : A → Bool) → Single F → 0 < F.width → Lawful (only F test) begin
only_lawful {F} {begin} test g w1 =
    let f : Lawful F begin = single_lawful g in
    let has : (l : List ℕ) → HasColumn (begin + 1) (F.fields l begin) = has_first f w1 in
    record {
      long = f.long;
      clean = λ a k. f.clean a (both_split (F.ok a) (test a) k).0;
      back = λ l at a k q.
          let w = both_split (F.ok a) (test a) k in
          let x = f.back l at a w.0 q in
          (first_join (F.fault l at) (blame (test (F.value l at)) at) x.0 (blame_good _ at (ap test x.1 ∙ w.1)), x.1);
      kept = λ l at h q.
          let w = first_split (F.fault l at) (blame (test (F.value l at)) at) q in
          let x = f.kept l at h w.0 in
          (x.0, both_join _ _ x.1 (blame_none _ at w.1));
      named = λ l h.
          first_left begin (F.fault l begin) (test (F.value l begin)) (g.first l begin)
          ∙ ap (λ (x : ℕ). leftmost x (blamed_of (test (F.value l begin)) (begin + 1))) (f.named l h)
          ∙ rule_wrong (begin + 1) (begin + 1) (begin + 1 + F.width) (F.fields l begin) (test (F.value l begin)) (omega arith) (f.filled l) (has l);
      filled = λ l. rule_side (begin + 1) (test (F.value l begin)) (begin + 1) (begin + 1 + F.width) (F.fields l begin) (f.filled l);
    }

-- blank columns, or a format: what both come to
gap_named : {A : Type 0} {F : Format A} {begin : ℕ} → Lawful F begin → (l : List ℕ) → begin + F.width ≤ length l → (t : Bool) → eqb (gap_of l begin F.width) 0 ≡ t
    → pick t 0 (F.fault l begin) ≡ leftmost_wrong (pick t (blank_fields l begin F.width) (F.fields l begin))
gap_named {F} {begin} f l h true t = sym (eqb-true _ _ t) ∙ blank_wrong l begin F.width
gap_named {F} {begin} f l h false t = f.named l h

gap_filled : {A : Type 0} {F : Format A} {begin : ℕ} → Lawful F begin → (l : List ℕ) (t : Bool) → SideBySide (begin + 1) (pick t (blank_fields l begin F.width) (F.fields l begin)) (begin + 1 + F.width)
gap_filled {F} {begin} f l true = blank_side l begin F.width
gap_filled {F} {begin} f l false = f.filled l

pub maybe_named : {A : Type 0} {F : Format A} {begin : ℕ} → Lawful F begin → (l : List ℕ) → begin + F.width ≤ length l
    → pick (eqb (gap_of l begin F.width) 0) 0 (F.fault l begin) ≡ leftmost_wrong (pick (eqb (gap_of l begin F.width) 0) (blank_fields l begin F.width) (F.fields l begin))
maybe_named {F} {begin} f l h = gap_named f l h (eqb (gap_of l begin F.width) 0) refl

pub maybe_filled : {A : Type 0} {F : Format A} {begin : ℕ} → Lawful F begin → (l : List ℕ)
    → SideBySide (begin + 1) (pick (eqb (gap_of l begin F.width) 0) (blank_fields l begin F.width) (F.fields l begin)) (begin + 1 + F.width)
maybe_filled {F} {begin} f l = gap_filled f l (eqb (gap_of l begin F.width) 0)

module _ {A B : Type 0} (F : Format A) (begin : ℕ) (f : Lawful F begin) (empty : B) (full : A → B) (text : B → List ℕ) (ok : B → Bool)
    (te : text empty ≡ blanks F.width) (tf : (a : A) → text (full a) ≡ F.text a) (oe : ok empty ≡ true) (of : (a : A) → ok (full a) ≡ F.ok a)
    (cases : (b : B) → (b ≡ empty) ⊎ ((a : A) × (b ≡ full a)))
    (filled : (l : List ℕ) (at : ℕ) → F.fault l at ≡ 0 → gap_of l at F.width ≡ 0 → ⊥) where
  abbrev M : Format B
  M = maybe F empty full text ok

  back_empty : (l : List ℕ) (at : ℕ) → cols l at F.width ≡ text empty → (M.fault l at ≡ 0) × (M.value l at ≡ empty)
  back_empty l at q = rw (gap_back l at F.width (q ∙ te)) (refl, refl)

  back_full : (l : List ℕ) (at : ℕ) (a : A) → ok (full a) ≡ true → cols l at F.width ≡ text (full a) → (M.fault l at ≡ 0) × (M.value l at ≡ full a)
  back_full l at a k q =
      let x = f.back l at a (sym (of a) ∙ k) (q ∙ tf a) in
      rw (ne_eqb (gap_of l at F.width) 0 (filled l at x.0)) (x.0, ap full x.1)

  pub maybe_lawful : Lawful M begin
  maybe_lawful =
      record {
        long = λ b.
            ⊎_elim (λ e. ap (λ y. length (text y)) e ∙ ap length te ∙ blanks_length F.width)
            (λ e. ap (λ y. length (text y)) e.1 ∙ ap length (tf e.0) ∙ f.long e.0) (cases b);
        clean = λ b k.
            ⊎_elim (λ e. subst (λ (x : List ℕ). Clean x) (sym (ap text e ∙ te)) (blanks_clean F.width))
            (λ e. subst (λ (x : List ℕ). Clean x) (sym (ap text e.1 ∙ tf e.0)) (f.clean e.0 (sym (of e.0) ∙ sym (ap ok e.1) ∙ k))) (cases b);
        back = λ l at b k q.
            ⊎_elim (λ e. rw e (back_empty l at (rw e at q)))
            (λ e. rw e.1 (back_full l at e.0 (rw e.1 at k) (rw e.1 at q))) (cases b);
        kept = λ l at h. by_gap l at h (eqb (gap_of l at F.width) 0) refl;
        named = maybe_named f;
        filled = maybe_filled f;
      }
    where
      by_gap : (l : List ℕ) (at : ℕ) → at + F.width ≤ length l → (t : Bool) → eqb (gap_of l at F.width) 0 ≡ t
          → pick t 0 (F.fault l at) ≡ 0 → (text (pick t empty (full (F.value l at))) ≡ cols l at F.width) × (ok (pick t empty (full (F.value l at))) ≡ true)
      by_gap l at h true t q = (te ∙ gap_text l at F.width h (eqb-true _ _ t), oe)
      by_gap l at h false t q = let x = f.kept l at h q in (tf (F.value l at) ∙ x.0, of (F.value l at) ∙ x.1)

pub blank_lawful : {B : Type 0} {begin : ℕ} (n : ℕ) (empty : B) (ok : B → Bool) → ok empty ≡ true → ((b : B) → ok b ≡ true → empty ≡ b) → Lawful (blank n empty ok) begin
blank_lawful {begin} n empty ok oe un =
    record {
      long = λ b. blanks_length n;
      clean = λ b k. blanks_clean n;
      back = λ l at b k q. (gap_back l at n q, un b k);
      kept = λ l at h q. (gap_text l at n h q, oe);
      named = λ l h. blank_wrong l begin n;
      filled = λ l. blank_side l begin n;
    }

pub into_lawful : {A B : Type 0} {begin : ℕ} (w : ℕ) (F : Format A) (G : A → Format B) → Lawful F begin → ((a : A) → Lawful (G a) (begin + F.width)) → ((a : A) → (G a).width ≡ w)
    → Lawful (into w F G) begin
into_lawful {A} {begin} w F G f g gw =
    record {
      long = λ a. length-append (F.text a.0) ((G a.0).text a.1) ∙ ap₂ ◌+◌ (f.long a.0) ((g a.0).long a.1 ∙ gw a.0);
      clean = λ a k.
          let z = both_split (F.ok a.0) ((G a.0).ok a.1) k in
          clean_append (F.text a.0) ((G a.0).text a.1) (f.clean a.0 z.0) ((g a.0).clean a.1 z.1);
      back = λ l at a k q.
          let z = both_split (F.ok a.0) ((G a.0).ok a.1) k in
          let x = f.back l at a.0 z.0 (cols_left l at F.width w (F.text a.0) ((G a.0).text a.1) (f.long a.0) q) in
          let r = cols_right l at F.width w (F.text a.0) ((G a.0).text a.1) (f.long a.0) q in
          let y = (g a.0).back l (at + F.width) a.1 z.1 (ap (cols l (at + F.width)) (gw a.0) ∙ r) in (
            first_join (F.fault l at) ((G (F.value l at)).fault l (at + F.width)) x.0 (ap (λ b. (G b).fault l (at + F.width)) x.1 ∙ y.0),
            λ i. (x.1 i, (ap (λ b. (G b).value l (at + F.width)) x.1 ∙ y.1) i),
          );
      kept = λ l at h q.
          let v : A = F.value l at in
          let z = first_split (F.fault l at) ((G v).fault l (at + F.width)) q in
          let x = f.kept l at (omega arith) z.0 in
          let e : (G v).width ≡ w = gw v in
          let y = (g v).kept l (at + F.width) (omega arith) z.1 in
          (ap₂ ◌++◌ x.0 (y.0 ∙ ap (cols l (at + F.width)) e) ∙ sym (cols_add l at F.width w), both_join _ _ x.1 y.1);
      named = λ l h.
          let v : A = F.value l begin in
          let e : (G v).width ≡ w = gw v in
          ap₂ first_of (f.named l (omega arith)) ((g v).named l (omega arith))
          ∙ sym (wrong_append (begin + 1) (begin + 1 + F.width) (F.fields l begin) ((G v).fields l (begin + F.width)) (omega arith) (f.filled l));
      filled = λ l.
          let v : A = F.value l begin in
          let s : SideBySide (begin + F.width + 1) ((G v).fields l (begin + F.width)) (begin + F.width + 1 + w) = rw (← gw v) ((g v).filled l) in
          side_join begin F.width w (F.fields l begin) ((G v).fields l (begin + F.width)) (f.filled l) s;
    }

pub fixed_lawful : {begin : ℕ} (n v : ℕ) → T (ltb v (cap_of n 0 false)) → Lawful (fixed n v) begin
unfolding ranged_of
fixed_lawful n v t =
    let f = ranged_single n 0 v v t in
    single_lawful (record {
      long = λ a. f.long v;
      clean = λ a k. render_clean n 0 false v;
      back = λ l at a k q. ((f.back l at v (both_join _ _ (le-leb v v (omega arith)) (le-leb v v (omega arith))) q).0, refl);
      kept = λ l at h q.
          let x = f.kept l at h q in
          let w = both_split (leb v (ranged_number n 0 v v l at).value) _ x.1 in
          let lo = leb-true v (ranged_number n 0 v v l at).value w.0 in
          let hi = leb-true (ranged_number n 0 v v l at).value v w.1 in
          let same : (ranged_number n 0 v v l at).value ≡ v = omega arith in
          (ap (λ y. render n 0 false y) (sym same) ∙ x.0, refl);
      first = f.first;
      alone = λ l at. refl;
    })
