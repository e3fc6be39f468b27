-- The SCALE rows of a text are the numbers of its SCALE lines.
-- Assumes nothing.
use mathlib.Core.Path.{◌≡◌, refl, sym, ◌∙◌, ap}
use mathlib.Core.List.{List}
use mathlib.Core.Bool.{Bool, true, false, not, false≢true}
use mathlib.Core.Logic.{◌⊎◌, inl, inr}
use Prim.Native.Nat.{ℕ, zero, suc, ◌+◌, ◌*◌, ◌/◌, ◌≤◌, ◌<◌}
use native.Mathlib.Omega.{arith}
use lib.Dec.{T, eqb, leb, ltb}
use lib.ListN.{length, get_or, take, drop, length-take, length-drop}
use lib.Seq.{get_or-take}
use borrow.Author.Tests.{eqb-true, eq-eqb, ne_eqb, leb-true, leb-false, lt-ltb, le-ltb, ltb-true, ltb-false}
use Rattle.ascii.specs.Tests.{pick, both, either}
use Rattle.ascii.proofs.Choice.{picks, never, either_split}
use Rattle.columns.specs.Columns.{clean_at}
use Rattle.columns.proofs.Spans.{clean_fewer}
use Rattle.words.specs.Words.{word_at}
use Rattle.kinds.specs.declared.Kind.{Kind}
use Rattle.kinds.specs.declared.Kind.TheVariants as kind
use Rattle.kinds.specs.Kinds.{row_of, name_text, is, kind_named, kind_of}
use Rattle.kinds.proofs.First.{name_first, same_name, each}
use Rattle.transform.specs.declared.Axis.{Axis}
use Rattle.transform.specs.declared.Axis.TheVariants.{X, Y, Z}
use Rattle.transform.specs.Transforms.{transform_f, transform_kind}
use Rattle.line.specs.declared.Record.{Record}
use Rattle.line.specs.declared.Record.TheVariants as rec
use Rattle.std.specs.Prelude.{Result, Ok, Err}
use Rattle.line.specs.declared.unread.Unread.TheVariants as unread
use Rattle.line.specs.Lines.{Reading, judged, reading_of, crystal_read}
use Rattle.pieces.specs.declared.Line.{Line}
use Rattle.pieces.specs.declared.Line.TheVariants.{Bad, Wrong, Carried, Typed}
use Rattle.pieces.specs.Pieces.{line_in, columns_of, line_of}
use Rattle.facets.specs.Facets.{record_kind, line_kind}
use Rattle.places.specs.Places.{place_bad, end_place}
use Rattle.places.proofs.Laws.{place_low, place_high}
use Rattle.rules.specs.declared.Looked.{Looked}
use Rattle.rules.specs.declared.State.{State}
use Rattle.rules.specs.Rules.{judge_of, next_of, carried_next, typed_next, start_of}
use Rattle.rules.proofs.Laws.{judge_typed, judge_carried, judge_bad, judge_wrong}
use Rattle.rows.specs.Text.{piece_at, row, down}
use Rattle.gate.specs.Gate.{look_of, check_of}
use Rattle.gate.proofs.Runs.{state_at, GoodTo, answered}
use Rattle.fractional.specs.declared.Rows.{Rows}
use Rattle.fractional.specs.Scale.{is_scale, scale_from, scale_at, row_at, rows_at, Right, scale_of}
use Rattle.fractional.specs.Promise.{Scales}
use Rattle.refusals.specs.declared.Refusal.TheVariants as refusal

-- ---- the name of a line
word_same : (l m : List ℕ) (a b n : ℕ) → ((k : ℕ) → k < n → get_or l (a + k) 0 ≡ get_or m (b + k) 0) → word_at l a n ≡ word_at m b n
unfolding word_at
word_same l m a b zero f = refl
word_same l m a b (suc n) f = rw (word_same l m a b n (λ k h. f k (omega arith)), f n (omega arith))

word_piece : (p : List ℕ) → word_at p 0 6 ≡ word_at (take 80 p) 0 6
word_piece p = word_same p (take 80 p) 0 0 6 (λ k h. let z : 0 + k ≡ k = omega arith in rw z (sym (get_or-take 80 p k 0 (omega arith))))

word_name : (l : List ℕ) → take 6 l ≡ name_text kind.Scale1 → word_at l 0 6 ≡ (row_of kind.Scale1).name
unfolding word_at
word_name l e =
    word_same l (name_text kind.Scale1) 0 0 6 (λ k h. let z : 0 + k ≡ k = omega arith in rw z (sym (get_or-take 6 l k 0 h) ∙ ap (λ (x : List ℕ). get_or x k 0) e))

-- ---- a good line
record Piece (t : List ℕ) (i : ℕ) : Type 0 where
  long : 81 ≤ length (piece_at t i)
  clean : clean_at (take 80 (piece_at t i)) 0 80 ≡ true
  reads : row t i ≡ line_in (kind_of (take 80 (piece_at t i))) (reading_of (kind_of (take 80 (piece_at t i))) (take 80 (piece_at t i)))

piece_good : (t : List ℕ) (i : ℕ) (look : Looked) (s : State) → judge_of look s (row t i) ≡ 0 → Piece t i
unfolding row line_of columns_of judge_of
piece_good t i look s j = go (ltb (length p) 81) refl (eqb (get_or p 80 0) 10) refl (clean_at (take 80 p) 0 80) refl j
  where
    p : List ℕ
    p = piece_at t i

    inner : Line
    inner = line_in (kind_of (take 80 p)) (reading_of (kind_of (take 80 p)) (take 80 p))

    go : (a : Bool) → ltb (length p) 81 ≡ a → (b : Bool) → eqb (get_or p 80 0) 10 ≡ b → (c : Bool) → clean_at (take 80 p) 0 80 ≡ c
        → judge_of look s (pick a (Bad refusal.Length) (pick b (pick c inner (Bad refusal.Byte)) (Bad refusal.LineEnd))) ≡ 0 → Piece t i
    go true ea b eb c ec e = absurd (omega arith)
    go false ea true eb true ec e = record { long = ltb-false _ _ ea; clean = ec; reads = rw (ea, eb, ec) }
    go false ea true eb false ec e = absurd (omega arith)
    go false ea false eb c ec e = absurd (omega arith)

-- ---- the kind of a good line
judged_kind : (k : Kind) (c : ℕ) (r : Record) → record_kind r ≡ k → line_kind (line_in k (judged c r)) ≡ k
unfolding judged
judged_kind k c r e = picks (λ (x : Reading). line_kind (line_in k x) ≡ k) (eqb c 0) (Ok r) (Err (unread.Wrong (record { 0 = c }))) (λ _. e) (λ _. refl)

line_kind_lem : (k : Kind) (l : List ℕ) → line_kind (line_in k (reading_of k l)) ≡ k
unfolding reading_of crystal_read
line_kind_lem kind.Header l = refl
line_kind_lem kind.Title l = refl
line_kind_lem kind.Compnd l = refl
line_kind_lem kind.Source l = refl
line_kind_lem kind.Keywds l = refl
line_kind_lem kind.Expdta l = refl
line_kind_lem kind.Author l = refl
line_kind_lem kind.Revdat l = refl
line_kind_lem kind.Jrnl l = refl
line_kind_lem kind.Remark l = refl
line_kind_lem kind.Seqres l = refl
line_kind_lem kind.Het l = refl
line_kind_lem kind.Helix l = judged_kind kind.Helix _ _ refl
line_kind_lem kind.Sheet l = judged_kind kind.Sheet _ _ refl
line_kind_lem kind.Cryst1 l = judged_kind kind.Cryst1 _ _ refl
line_kind_lem kind.Origx1 l = judged_kind kind.Origx1 _ _ refl
line_kind_lem kind.Origx2 l = judged_kind kind.Origx2 _ _ refl
line_kind_lem kind.Origx3 l = judged_kind kind.Origx3 _ _ refl
line_kind_lem kind.Scale1 l = judged_kind kind.Scale1 _ _ refl
line_kind_lem kind.Scale2 l = judged_kind kind.Scale2 _ _ refl
line_kind_lem kind.Scale3 l = judged_kind kind.Scale3 _ _ refl
line_kind_lem kind.Atom l = judged_kind kind.Atom _ _ refl
line_kind_lem kind.Hetatm l = judged_kind kind.Hetatm _ _ refl
line_kind_lem kind.Ter l = judged_kind kind.Ter _ _ refl
line_kind_lem kind.Conect l = judged_kind kind.Conect _ _ refl
line_kind_lem kind.Master l = judged_kind kind.Master _ _ refl
line_kind_lem kind.End l = judged_kind kind.End _ _ refl
line_kind_lem kind.Unknown l = refl
line_kind_lem kind.Model l = judged_kind kind.Model _ _ refl
line_kind_lem kind.Endmdl l = judged_kind kind.Endmdl _ _ refl

-- a good line of the kind SCALEn has its numbers
scale_reads : (a : Axis) (l : List ℕ) → reading_of (transform_kind true a) l ≡ judged (transform_f.fault l 6) (rec.Transform true a (transform_f.value l 6))
unfolding reading_of crystal_read
scale_reads X l = refl
scale_reads Y l = refl
scale_reads Z l = refl

-- a line of the kind SCALEn is read to its numbers, and no field of it is wrong
abbrev Numbers : List ℕ → ℕ → Axis → Type 0
Numbers t i a = (transform_f.fault (take 80 (piece_at t i)) 6 ≡ 0) × (row t i ≡ Typed (rec.Transform true a (row_at t i)))

judged_line : (k : Kind) (c : ℕ) (r : Record) (l : Line) → l ≡ line_in k (judged c r) → ((c ≡ 0) × (l ≡ Typed r)) ⊎ (l ≡ Wrong k (record { 0 = c }))
unfolding judged
judged_line k c r l =
    picks (λ (x : Reading). l ≡ line_in k x → ((c ≡ 0) × (l ≡ Typed r)) ⊎ (l ≡ Wrong k (record { 0 = c }))) (eqb c 0) (Ok r) (Err (unread.Wrong (record { 0 = c }))) (λ z e. inl (eqb-true c 0 z, e)) (λ _ e. inr e)

scale_typed : (t : List ℕ) (i : ℕ) (look : Looked) (s : State) (a : Axis) → judge_of look s (row t i) ≡ 0 → kind_of (take 80 (piece_at t i)) ≡ transform_kind true a → Numbers t i a
scale_typed t i look s a j e =
    go (judged_line (transform_kind true a) (transform_f.fault l 6) (rec.Transform true a (row_at t i)) (row t i)
    ((piece_good t i look s j).reads ∙ ap (λ (k : Kind). line_in k (reading_of k l)) e ∙ ap (line_in (transform_kind true a)) (scale_reads a l)))
  where
    l : List ℕ
    l = take 80 (piece_at t i)

    go : ((transform_f.fault l 6 ≡ 0) × (row t i ≡ Typed (rec.Transform true a (row_at t i)))) ⊎ (row t i ≡ Wrong (transform_kind true a) (record { 0 = transform_f.fault l 6 })) → Numbers t i a
    go (inl q) = q
    go (inr q) = absurd (judge_wrong look s (transform_kind true a) (record { 0 = transform_f.fault l 6 }) (rw q at j))

-- ---- lines in a row
-- what a good line asks of the place before it, and the place that it leaves
line_place : (look : Looked) (s : State) (l : Line) → judge_of look s l ≡ 0 → (place_bad s.place (line_kind l) ≡ false) × ((next_of s l).place ≡ (row_of (line_kind l)).here)
unfolding judge_of next_of carried_next typed_next
line_place look s (Bad n) j = absurd (judge_bad look s n j)
line_place look s (Wrong k column) j = absurd (judge_wrong look s k column j)
line_place look s (Carried k) j = ((judge_carried look s k j).0, refl)
line_place look s (Typed r) j = ((judge_typed look s r j).place, refl)

-- a kind by the place that it follows, and by its own: tests that are computed of every kind
told : (b : Bool) → T b → b ≡ true
told true h = refl
told false h = elim h [ ]

right_of : (a b : Bool) → a ≡ false → either a b ≡ true → b ≡ true
right_of a b e = either_split a b (λ t. never (sym e ∙ t)) (λ t. t)

the_kind : (a k : Kind) → is a k ≡ true → k ≡ a
the_kind a k e = sym (same_name a k (eqb-true _ _ e))

after_one : (k : Kind) → place_bad 24 k ≡ false → k ≡ kind.Scale2
unfolding place_bad both either
after_one k e = the_kind kind.Scale2 k (right_of (place_bad 24 k) _ e (told _ (each (λ (x : Kind). either (place_bad 24 x) (is kind.Scale2 x)) tt k)))

after_two : (k : Kind) → place_bad 25 k ≡ false → k ≡ kind.Scale3
unfolding place_bad both either
after_two k e = the_kind kind.Scale3 k (right_of (place_bad 25 k) _ e (told _ (each (λ (x : Kind). either (place_bad 25 x) (is kind.Scale3 x)) tt k)))

place_one : (k : Kind) → (row_of k).here ≡ 24 → k ≡ kind.Scale1
unfolding either
place_one k e = the_kind kind.Scale1 k (right_of _ _ (ap not (eq-eqb (row_of k).here 24 e)) (told _ (each (λ (x : Kind). either (not (eqb (row_of x).here 24)) (is kind.Scale1 x)) tt k)))

place_two : (k : Kind) → (row_of k).here ≡ 25 → k ≡ kind.Scale2
unfolding either
place_two k e = the_kind kind.Scale2 k (right_of _ _ (ap not (eq-eqb (row_of k).here 25 e)) (told _ (each (λ (x : Kind). either (not (eqb (row_of x).here 25)) (is kind.Scale2 x)) tt k)))

start_place : (L : ℕ → Line) (p : ℕ) → (state_at L 0).place ≡ suc p → ⊥
unfolding state_at start_of
start_place L p e = omega arith

-- ---- an accepted text
module _ (t : List ℕ) (ok : (check_of t).number ≡ 0) where
  abbrev count : ℕ
  count = (check_of t).good

  good : GoodTo (row t) count
  good = (answered t).good_to

  size : length t ≡ 81 * count
  size = ((answered t).granted ok).1

  whole : length t / 81 ≡ count
  whole = omega (arith, size)

  judged_at : (i : ℕ) → i < count → judge_of (look_of (down (row t) i) (row t i)) (state_at (row t) i) (row t i) ≡ 0
  judged_at i h = good i h

  placed : (i : ℕ) → i < count → (place_bad (state_at (row t) i).place (line_kind (row t i)) ≡ false) × ((state_at (row t) (suc i)).place ≡ (row_of (line_kind (row t i))).here)
  unfolding state_at
  placed i h = line_place _ (state_at (row t) i) (row t i) (judged_at i h)

  kind_at : (i : ℕ) → i < count → line_kind (row t i) ≡ kind_of (take 80 (piece_at t i))
  kind_at i h = ap line_kind (piece_good t i _ (state_at (row t) i) (judged_at i h)).reads ∙ line_kind_lem (kind_of (take 80 (piece_at t i))) (take 80 (piece_at t i))

  -- the line after one that only one kind follows
  next_line : (i p : ℕ) → i < count → (row_of (line_kind (row t i))).here ≡ p → (p ≡ end_place → ⊥) → (suc i < count) × (place_bad p (line_kind (row t (suc i))) ≡ false)
  next_line i p h e far = go (ltb (suc i) count) refl
    where
      here : (state_at (row t) (suc i)).place ≡ p
      here = (placed i h).1 ∙ e

      go : (b : Bool) → ltb (suc i) count ≡ b → (suc i < count) × (place_bad p (line_kind (row t (suc i))) ≡ false)
      go true u = let g : suc i < count = ltb-true (suc i) count u in (g, rw here at (placed (suc i) g).0)
      go false u = let q : suc i ≡ count = omega (arith, ltb-false (suc i) count u) in absurd (far (sym here ∙ rw q ((answered t).granted ok).2))

  -- SCALE1 is followed by SCALE2 and SCALE3
  trio : (i : ℕ) → i < count → line_kind (row t i) ≡ kind.Scale1 → (i + 2 < count) × (line_kind (row t (i + 1)) ≡ kind.Scale2) × (line_kind (row t (i + 2)) ≡ kind.Scale3)
  trio i h e =
      let a = next_line i 24 h (ap (λ (k : Kind). (row_of k).here) e) (λ q. omega arith) in
      let two = after_one (line_kind (row t (suc i))) a.1 in
      let b = next_line (suc i) 25 a.0 (ap (λ (k : Kind). (row_of k).here) two) (λ q. omega arith) in
      let three = after_two (line_kind (row t (suc (suc i)))) b.1 in
      let p : suc i ≡ i + 1 = omega arith in
      let q : suc (suc i) ≡ i + 2 = omega arith in
      (omega (arith, b.0), rw (← p) two, rw (← q) three)

  typed_at : (i : ℕ) (a : Axis) → i < count → line_kind (row t i) ≡ transform_kind true a → Numbers t i a
  typed_at i a h e = scale_typed t i _ (state_at (row t) i) a (judged_at i h) (sym (kind_at i h) ∙ e)

  -- SCALE2 and SCALE3 follow SCALE1
  only : (i : ℕ) → i < count → (k : Kind) (p : ℕ) → line_kind (row t i) ≡ k → (row_of k).low ≡ p → (row_of k).high ≡ p → (state_at (row t) i).place ≡ p
  only i h k p e low high =
      let b : place_bad (state_at (row t) i).place k ≡ false = rw e at (placed i h).0 in
      omega (arith, place_low (state_at (row t) i).place k b, place_high (state_at (row t) i).place k b)

  before_line : (i p : ℕ) → i < count → (state_at (row t) i).place ≡ suc p → (j : ℕ) × (i ≡ suc j) × ((row_of (line_kind (row t j))).here ≡ suc p)
  before_line zero p h e = absurd (start_place (row t) p e)
  before_line (suc i) p h e = (i, refl, sym (placed i (omega arith)).1 ∙ e)

  first_two : (i : ℕ) → i < count → line_kind (row t i) ≡ kind.Scale2 → (j : ℕ) × (j < count) × (line_kind (row t j) ≡ kind.Scale1)
  first_two i h e =
      let b = before_line i 23 h (only i h kind.Scale2 24 e refl refl) in
      (b.0, omega (arith, b.1), place_one _ b.2)

  first_of_lem : (a : Axis) (i : ℕ) → i < count → line_kind (row t i) ≡ transform_kind true a → (j : ℕ) × (j < count) × (line_kind (row t j) ≡ kind.Scale1)
  first_of_lem X i h e = (i, h, e)
  first_of_lem Y i h e = first_two i h e
  first_of_lem Z i h e =
      let b = before_line i 24 h (only i h kind.Scale3 25 e refl refl) in
      first_two b.0 (omega (arith, b.1)) (place_two _ b.2)

-- ---- the search
scale_low : (t : List ℕ) (i n : ℕ) → i ≤ scale_from t i n
unfolding scale_from
scale_low t i zero = omega arith
scale_low t i (suc n) = picks (λ (x : ℕ). i ≤ x) (is_scale t i) i (scale_from t (i + 1) n) (λ _. omega arith) (λ _. omega (arith, scale_low t (i + 1) n))

scale_found : (t : List ℕ) (i n : ℕ) → scale_from t i n < i + n → is_scale t (scale_from t i n) ≡ true
unfolding scale_from
scale_found t i zero h = absurd (omega arith)
scale_found t i (suc n) h =
    picks (λ (x : ℕ). x < i + suc n → is_scale t x ≡ true) (is_scale t i) i (scale_from t (i + 1) n) (λ e _. e) (λ _ g. scale_found t (i + 1) n (omega arith)) h

scale_least : (t : List ℕ) (i n m : ℕ) → i ≤ m → m < i + n → is_scale t m ≡ true → scale_from t i n ≤ m
unfolding scale_from
scale_least t i zero m a b e = absurd (omega arith)
scale_least t i (suc n) m a b e =
    picks (λ (x : ℕ). x ≤ m) (is_scale t i) i (scale_from t (i + 1) n) (λ _. a) (λ u. scale_least t (i + 1) n m (later u (ltb i m) refl) (omega arith) e)
  where
    later : is_scale t i ≡ false → (b : Bool) → ltb i m ≡ b → i + 1 ≤ m
    later u true v = omega (arith, ltb-true i m v)
    later u false v = let q : i ≡ m = omega (arith, ltb-false i m v) in absurd (false≢true (sym u ∙ rw q e))

-- ---- the name SCALE1 and the kind
named_kind : (t : List ℕ) (i : ℕ) → 81 ≤ length (piece_at t i) → is_scale t i ≡ true → kind_of (take 80 (piece_at t i)) ≡ kind.Scale1
unfolding kind_of kind_named
named_kind t i h e =
    let w : word_at (take 80 (piece_at t i)) 0 6 ≡ (row_of kind.Scale1).name = sym (word_piece (piece_at t i)) ∙ eqb-true _ _ e in
    let k : 6 ≤ length (take 80 (piece_at t i)) = simp length-take (omega arith) in
    rw (le-ltb _ _ k, w)

kind_named_lem : (t : List ℕ) (i : ℕ) → Piece t i → kind_of (take 80 (piece_at t i)) ≡ kind.Scale1 → is_scale t i ≡ true
kind_named_lem t i P e =
    let h : 81 ≤ length (piece_at t i) = P.long in
    let k : 6 ≤ length (take 80 (piece_at t i)) = simp length-take (omega arith) in
    eq-eqb _ _ (word_piece (piece_at t i) ∙ word_name _ (name_first _ k (clean_fewer _ 0 6 80 (omega arith) P.clean) kind.Scale1 e refl))

-- ---- the rows are there, or there is no SCALE line
-- three lines from the first named SCALE1 on are SCALE1, SCALE2, SCALE3, and each is read to its numbers
three : (t : List ℕ) → (check_of t).number ≡ 0 → scale_at t + 3 ≤ length t / 81 → Numbers t (scale_at t) X × Numbers t (scale_at t + 1) Y × Numbers t (scale_at t + 2) Z
three t ok h =
    let i : ℕ = scale_at t in
    let g : i < (check_of t).good = omega (arith, whole t ok) in
    let P = piece_good t i _ _ (judged_at t ok i g) in
    let k : line_kind (row t i) ≡ kind.Scale1 = kind_at t ok i g ∙ named_kind t i P.long (scale_found t 0 (length t / 81) (omega arith)) in
    let T = trio t ok i g k in
    (typed_at t ok i X g k, typed_at t ok (i + 1) Y (omega (arith, T.0)) T.1, typed_at t ok (i + 2) Z T.0 T.2)

-- so no field of them is wrong
pub rows_right : (t : List ℕ) (i : ℕ) → (check_of t).number ≡ 0 → i ≡ scale_at t → i + 3 ≤ length t / 81 → Right t i
rows_right t i ok at h = let r = three t ok (rw (← at) h) in rw at (r.0.0, r.1.0, r.2.0)

rows_there : (t : List ℕ) (r : Rows) → (check_of t).number ≡ 0
    → pick {A = Result Rows ℕ} (leb (scale_at t + 3) (length t / 81)) (Ok (rows_at t (scale_at t))) (Err 29) ≡ Ok r
    → (i : ℕ) × (row t i ≡ Typed (rec.Transform true X r.x)) × (row t (i + 1) ≡ Typed (rec.Transform true Y r.y)) × (row t (i + 2) ≡ Typed (rec.Transform true Z r.z))
rows_there t r ok = go (leb (scale_at t + 3) (length t / 81)) refl
  where
    i : ℕ
    i = scale_at t

    go : (b : Bool) → leb (i + 3) (length t / 81) ≡ b → pick {A = Result Rows ℕ} b (Ok (rows_at t i)) (Err 29) ≡ Ok r
        → (j : ℕ) × (row t j ≡ Typed (rec.Transform true X r.x)) × (row t (j + 1) ≡ Typed (rec.Transform true Y r.y)) × (row t (j + 2) ≡ Typed (rec.Transform true Z r.z))
    go false u e = let z : ◌≡◌ {A = ℕ} 0 1 = cc in absurd (omega arith)
    go true u e =
        let q : rows_at t i ≡ r = cc in
        let n = three t ok (leb-true _ _ u) in
        (i, rw (← q) n.0.1, rw (← q) n.1.1, rw (← q) n.2.1)

past_end : (t : List ℕ) (i : ℕ) → length t ≤ 81 * i → row t i ≡ Bad refusal.Length
unfolding row line_of piece_at
past_end t i h = let s : length (take 81 (drop (81 * i) t)) < 81 = simp (length-take, length-drop) (omega arith) in rw (lt-ltb _ _ s)

no_name : (a : Axis) → is (transform_kind true a) kind.Unknown ≡ true → ⊥
no_name X e = false≢true e
no_name Y e = false≢true e
no_name Z e = false≢true e

none_there : (t : List ℕ) → (check_of t).number ≡ 0 → (m : ℕ) → pick {A = Result Rows ℕ} (leb (scale_at t + 3) (length t / 81)) (Ok (rows_at t (scale_at t))) (Err 29) ≡ Err m
    → (m ≡ 29) × ((i : ℕ) (a : Axis) → is (transform_kind true a) (line_kind (row t i)) ≡ false)
none_there t ok m = go (leb (scale_at t + 3) (length t / 81)) refl
  where
    there : leb (scale_at t + 3) (length t / 81) ≡ false → (i : ℕ) (a : Axis) → i < (check_of t).good → line_kind (row t i) ≡ transform_kind true a → ⊥
    there u i a h e =
        let F = first_of_lem t ok a i h e in
        let j : ℕ = F.0 in
        let T = trio t ok j F.1 F.2 in
        let s : is_scale t j ≡ true = kind_named_lem t j (piece_good t j _ _ (judged_at t ok j F.1)) (sym (kind_at t ok j F.1) ∙ F.2) in
        let l : scale_at t ≤ j = scale_least t 0 (length t / 81) j (omega arith) (omega (arith, whole t ok, F.1)) s in
        omega (arith, leb-false (scale_at t + 3) (length t / 81) u, whole t ok, T.0)

    at : leb (scale_at t + 3) (length t / 81) ≡ false → (i : ℕ) (a : Axis) (b : Bool) → is (transform_kind true a) (line_kind (row t i)) ≡ b → b ≡ false
    at u i a false e = refl
    at u i a true e = absurd (by (ltb i (check_of t).good) refl)
      where
        by : (c : Bool) → ltb i (check_of t).good ≡ c → ⊥
        by true v = there u i a (ltb-true _ _ v) (the_kind (transform_kind true a) (line_kind (row t i)) e)
        by false v = no_name a (sym (ap (λ (l : Line). is (transform_kind true a) (line_kind l)) (past_end t i (omega (arith, ltb-false i (check_of t).good v, size t ok)))) ∙ e)

    go : (b : Bool) → leb (scale_at t + 3) (length t / 81) ≡ b → pick {A = Result Rows ℕ} b (Ok (rows_at t (scale_at t))) (Err 29) ≡ Err m
        → (m ≡ 29) × ((i : ℕ) (a : Axis) → is (transform_kind true a) (line_kind (row t i)) ≡ false)
    go true u e = let z : ◌≡◌ {A = ℕ} 0 1 = cc in absurd (omega arith)
    go false u e = let q : ◌≡◌ {A = ℕ} 29 m = cc in (sym q, λ i a. at u i a _ refl)

-- ---- THE THEOREM
pub scales : (t : List ℕ) → Scales t
unfolding scale_of
scales t =
    record {
      own = λ e. rw (ne_eqb _ _ e);
      rows = λ r ok e. rows_there t r ok (rw (eq-eqb _ _ ok) at e);
      none = λ ok m e. none_there t ok m (rw (eq-eqb _ _ ok) at e);
    }
