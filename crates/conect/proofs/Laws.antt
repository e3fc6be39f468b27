-- CONECT is lawful. Assumes nothing.
use mathlib.Core.Logic.{inl, inr}
use mathlib.Core.Path.{◌≡◌, refl, sym}
use mathlib.Core.List.{List}
use mathlib.Core.Bool.{Bool, true, false}
use Prim.Native.Nat.{ℕ, ◌+◌, ◌≤◌}
use native.Mathlib.Omega.{arith}
use lib.Dec.{eqb, leb, lit<}
use lib.ListN.{length}
use borrow.Author.Tests.{eqb-true, eqb-false, ne_eqb, le-leb, leb-true}
use Rattle.ascii.specs.Tests.{pick, both, between}
use Rattle.columns.specs.Columns.{gap_of, blanks, cols}
use Rattle.ascii.proofs.Choice.{picks, both_split, both_join}
use Rattle.ascii.proofs.Clean.{Clean}
use Rattle.columns.proofs.Spans.{blanks_length, blanks_clean, gap_text, gap_back, gap_byte}
use Rattle.numbers.specs.Number.{render, number_of}
use Rattle.numbers.proofs.Laws.{render_length, render_clean}
use Rattle.fields.specs.Field.{whole_in, ranged_number, ranged_of}
use Rattle.fields.proofs.Sides.{HasColumn, has_left, has_right, has_rule}
use Rattle.fields.proofs.Formats.{Lawful, Single, single_lawful, ranged_single, none_lawful, then_lawful, after_lawful, held_lawful, under_lawful, has_first}
use Rattle.fields.proofs.Choices.{maybe_named, maybe_filled}
use Rattle.conect.specs.declared.Conect.{Conect}
use Rattle.conect.specs.Conects.{serial_f, partner_f, partner_columns, partners_f, partners_columns, serials_f, serials_columns, differs, unbroken, conect_f, conect_columns}

pub serial_single : Single serial_f
serial_single = ranged_single 5 0 1 99999 tt

serial_lawful : {begin : ℕ} → Lawful serial_f begin
serial_lawful = single_lawful serial_single

-- where the last column is blank, there is no number
no_number : (l : List ℕ) (at : ℕ) → gap_of l at 5 ≡ 0 → (ranged_number 5 0 1 99999 l at).column ≡ 0 → ⊥
unfolding whole_in number_of between
no_number l at g e = let z : at + 1 ≡ 0 = rw (gap_byte l at 5 4 g (lit< tt)) at e in omega arith

ranged_low : (v : ℕ) → ranged_of 1 99999 v ≡ true → (1 ≤ v) × (v ≤ 99999)
unfolding ranged_of
ranged_low v k = let w = both_split (leb 1 v) (leb v 99999) k in (leb-true 1 v w.0, leb-true v 99999 w.1)

ranged_up : (v : ℕ) → (v ≡ 0 → ⊥) → v ≤ 99999 → ranged_of 1 99999 v ≡ true
unfolding ranged_of
ranged_up v z h = both_join _ _ (le-leb 1 v (omega arith)) (le-leb v 99999 h)

partner_lawful : {begin : ℕ} → Lawful partner_f begin
unfolding partner_columns
partner_lawful =
    record {
      long = λ v. picks (λ (x : List ℕ). length x ≡ 5) (eqb v 0) (blanks 5) (render 5 0 false v) (λ _. blanks_length 5) (λ _. render_length 5 0 false v);
      clean = λ v k. picks (λ (x : List ℕ). Clean x) (eqb v 0) (blanks 5) (render 5 0 false v) (λ _. blanks_clean 5) (λ _. render_clean 5 0 false v);
      back = λ l at v k q. by_value l at v (leb-true v 99999 k) (eqb v 0) refl q;
      kept = λ l at h q. by_gap l at h (eqb (gap_of l at 5) 0) refl q;
      named = maybe_named serial_lawful;
      filled = maybe_filled serial_lawful;
    }
  where
    by_value : (l : List ℕ) (at v : ℕ) → v ≤ 99999 → (t : Bool) → eqb v 0 ≡ t → cols l at 5 ≡ pick t (blanks 5) (render 5 0 false v)
        → (partner_f.fault l at ≡ 0) × (partner_f.value l at ≡ v)
    by_value l at v b true t q = rw (gap_back l at 5 q) (refl, sym (eqb-true v 0 t))
    by_value l at v b false t q =
        let x = serial_single.back l at v (ranged_up v (eqb-false v 0 t) b) q in
        rw (ne_eqb (gap_of l at 5) 0 (λ g. no_number l at g x.0)) x

    by_gap : (l : List ℕ) (at : ℕ) → at + 5 ≤ length l → (t : Bool) → eqb (gap_of l at 5) 0 ≡ t
        → pick t 0 (serial_f.fault l at) ≡ 0
        → (partner_f.text (pick t 0 (serial_f.value l at)) ≡ cols l at 5) × (partner_f.ok (pick t 0 (serial_f.value l at)) ≡ true)
    by_gap l at h true t q = (gap_text l at 5 h (eqb-true _ _ t), refl)
    by_gap l at h false t q =
        let x = serial_single.kept l at h q in
        let r = ranged_low (ranged_number 5 0 1 99999 l at).value x.1 in
        (rw (ne_eqb (ranged_number 5 0 1 99999 l at).value 0 (λ z. omega arith)) x.0, le-leb _ 99999 r.1)

partners_lawful : {begin : ℕ} → Lawful partners_f begin
unfolding partners_columns
partners_lawful = then_lawful partner_lawful (then_lawful partner_lawful partner_lawful)

abbrev to : (ℕ × (ℕ × ((ℕ × (ℕ × ℕ)) × Unit {0}))) → Conect
to = λ (serial, (a, ((b, (c, d)), none))).
    record { serial = record { 0 = serial }; a = record { 0 = a }; b = record { 0 = b }; c = record { 0 = c }; d = record { 0 = d } }

abbrev from : Conect → (ℕ × (ℕ × ((ℕ × (ℕ × ℕ)) × Unit {0})))
from r = (r.serial.0, (r.a.0, ((r.b.0, (r.c.0, r.d.0)), tt)))

serials_lawful : Lawful serials_f 6
unfolding serials_columns
serials_lawful =
    held_lawful to from (λ r. refl) (λ f. refl) (then_lawful serial_lawful (then_lawful serial_lawful (then_lawful partners_lawful (after_lawful 49 none_lawful))))

-- each partner is a field
first_field : (l : List ℕ) → HasColumn 12 (serials_f.fields l 6)
unfolding serials_columns HasColumn
first_field l = inr (inl refl)

later_field : (c : ℕ) (l : List ℕ) → HasColumn c (partners_f.fields l 16) → HasColumn c (serials_f.fields l 6)
unfolding serials_columns HasColumn
later_field c l h = inr (inr (has_left c (partners_f.fields l 16) _ h))

second_field : (l : List ℕ) → HasColumn 17 (partners_f.fields l 16)
unfolding partners_columns
second_field l = has_left 17 (partner_f.fields l 16) _ (has_first {F = partner_f} {begin = 16} partner_lawful (lit< tt) l)

third_field : (l : List ℕ) → HasColumn 22 (partners_f.fields l 16)
unfolding partners_columns
third_field l = has_right 22 (partner_f.fields l 16) _ (has_left 22 (partner_f.fields l 21) _ (has_first {F = partner_f} {begin = 21} partner_lawful (lit< tt) l))

fourth_field : (l : List ℕ) → HasColumn 27 (partners_f.fields l 16)
unfolding partners_columns
fourth_field l = has_right 27 (partner_f.fields l 16) _ (has_right 27 (partner_f.fields l 21) _ (has_first {F = partner_f} {begin = 26} partner_lawful (lit< tt) l))

pub conect_lawful : Lawful conect_f 6
unfolding conect_columns
conect_lawful =
    under_lawful (λ (r : Conect). both (differs r.d.0 r.serial.0) (unbroken r.c.0 r.d.0)) 27 tt
    (λ l. has_rule 27 22 _ _ (has_rule 27 17 _ _ (has_rule 27 12 _ _ (later_field 27 l (fourth_field l)))))
    (under_lawful (λ (r : Conect). both (differs r.c.0 r.serial.0) (unbroken r.b.0 r.c.0)) 22 tt
    (λ l. has_rule 22 17 _ _ (has_rule 22 12 _ _ (later_field 22 l (third_field l))))
    (under_lawful (λ (r : Conect). differs r.b.0 r.serial.0) 17 tt (λ l. has_rule 17 12 _ _ (later_field 17 l (second_field l)))
    (under_lawful (λ (r : Conect). differs r.a.0 r.serial.0) 12 tt first_field serials_lawful)))
